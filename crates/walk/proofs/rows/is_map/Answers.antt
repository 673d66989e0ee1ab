-- `walk::rows::is_map` meets its contract.
-- Assumes nothing.
use Rattle.std.proofs.Common.{◌∙◌}
use Rattle.walk.proofs.RowLaws.{map_here, map_none}
use borrow.Author.Tests.{le-ltb}
use Rattle.walk.proofs.rows.is_map.Goals as goal

pub returns-then-i-n : goal.returns-then-i-n
returns-then-i-n c = map_here _ _ _ c.if-i-n.true (c.is_kind.ensures _ c.kind_number.ensures)

pub returns-else-i-n : goal.returns-else-i-n
returns-else-i-n c = le-ltb _ _ c.if-i-n.false ∙ map_none _ _ _ c.if-i-n.false
