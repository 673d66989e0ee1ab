-- `walk::leaves::pass` meets its contract.
-- Assumes nothing.
use Rattle.std.proofs.Common.{ap, Err}
use Rattle.walk.proofs.LeafLaws.{pass_cut, pass_ok}
use Rattle.walk.proofs.leaves.pass.Goals as goal

pub returns-then-room-n : goal.returns-then-room-n
returns-then-room-n c = pass_cut _ _ _ c.requires (ap Err c.fault.ensures) c.if-room-n.true

pub returns : goal.returns
returns c = pass_ok _ _ _ c.requires c.if-room-n.false
