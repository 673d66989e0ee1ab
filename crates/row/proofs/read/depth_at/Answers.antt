-- `row::read::depth_at` meets its contract: two bytes of the row.
-- Assumes nothing.
use mathlib.Core.Path.{◌∙◌}
use Rattle.row.proofs.ReadLaws.{read_depth}
use borrow.Author.Rules.{rules}
use Rattle.row.proofs.read.depth_at.Goals as goal

pub returns : goal.returns
returns c = (read_depth _ c.args.i (c.from.ensures ∙ c.u16_at.ensures), search rules)
