-- `row::read::default_length` meets its contract: one byte of the row.
-- Assumes nothing.
use mathlib.Core.Path.{◌∙◌}
use Prim.Native.Nat.{◌+◌, ◌*◌}
use Rattle.row.proofs.ReadLaws.{byte_from}
use Rattle.row.specs.Layout.{rows_start, row_size}
use borrow.Author.Rules.{rules}
use Rattle.row.proofs.read.default_length.Goals as goal

pub returns : goal.returns
returns c = (c.from.ensures ∙ byte_from _ (rows_start + row_size * c.args.i) 7, search rules)
