-- `set::calls::open` meets its contract.
-- Assumes nothing.
use Rattle.set.proofs.CallLaws.{open_not, open_done}
use Rattle.set.proofs.calls.open.Goals as goal

pub returns-then-mem-ne-LENGTH : goal.returns-then-mem-ne-LENGTH
returns-then-mem-ne-LENGTH c = open_not _ c.if-mem-ne-LENGTH.true c.refused.ensures

pub returns : goal.returns
returns c = open_done _ c.if-mem-ne-LENGTH.false c.none.ensures c.clear.ensures
