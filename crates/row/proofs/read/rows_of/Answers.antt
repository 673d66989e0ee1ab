-- `row::read::rows_of` meets its contract: the two bytes of the place.
-- Assumes nothing.
use mathlib.Core.Path.{◌∙◌}
use Rattle.row.specs.Memory.{size_at}
use borrow.Author.Rules.{rules}
use Rattle.row.proofs.read.rows_of.Goals as goal

pub returns : goal.returns
unfolding size_at
returns c = (c.from.ensures ∙ c.u16_at.ensures, search rules)
