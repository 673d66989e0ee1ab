-- `row::read::declarations` meets its contract: the first two bytes.
-- Assumes nothing.
use mathlib.Core.Path.{◌∙◌}
use Rattle.row.specs.Sets.{count_in}
use Rattle.row.proofs.read.declarations.Goals as goal

pub returns : goal.returns
unfolding count_in
returns c = c.from.ensures ∙ c.u16_at.ensures
