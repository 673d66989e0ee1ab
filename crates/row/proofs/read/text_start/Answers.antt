-- `row::read::text_start` meets its contract: two bytes of the row.
-- Assumes nothing.
use mathlib.Core.Path.{◌∙◌}
use Prim.Native.Nat.{◌+◌, ◌*◌}
use Rattle.row.proofs.ReadLaws.{number_from_lem}
use Rattle.row.specs.Layout.{rows_start, row_size}
use borrow.Author.Rules.{rules}
use Rattle.row.proofs.read.text_start.Goals as goal

pub returns : goal.returns
returns c = (c.from.ensures ∙ c.u16_at.ensures ∙ number_from_lem _ (rows_start + row_size * c.args.i) 8 2, search rules)
