-- `set::append::push` meets its contract.
-- Assumes nothing.
use Rattle.set.proofs.Appends.{pushes}
use Rattle.set.proofs.append.push.Goals as goal

pub returns : goal.returns
returns c = pushes _ _ _ _ _ c.push_rows-sum.ensures.0 c.push_rows-sum.ensures.1 c.declare.ensures c.new.ensures
