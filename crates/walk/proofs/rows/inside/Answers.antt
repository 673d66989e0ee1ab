-- `walk::rows::inside` meets its contract.
-- Assumes nothing.
use Rattle.std.proofs.Common.{rules}
use Rattle.walk.proofs.RowLaws.{inside_here, inside_none}
use Rattle.walk.proofs.rows.inside.Goals as goal

pub returns-then-i-n : goal.returns-then-i-n
returns-then-i-n c = (c.first_part.ensures.below, inside_here _ _ _ _ c.if-i-n.true c.first_part.ensures)

pub returns-else-i-n : goal.returns-else-i-n
returns-else-i-n c = (search rules, inside_none _ _ _ c.if-i-n.false)
