-- `view::marks::last` meets its contract.
-- Assumes nothing.
use Rattle.view.proofs.Marking.{last_none, last_one, last_two}
use native.Mathlib.Omega.{arith}
use Rattle.view.proofs.marks.last.Goals as goal

pub returns-then-left-eq0 : goal.returns-then-left-eq0
returns-then-left-eq0 c = last_none c.args.s.now c.args.i c.args.h c.if-left-eq0.true c.more.ensures

pub returns-then-left-eq1 : goal.returns-then-left-eq1
returns-then-left-eq1 c = last_one c.args.s.now c.args.i c.args.h c.if-left-eq1.true c.from-a.ensures c.more-then-left-eq1.ensures

pub returns : goal.returns
returns c = last_two c.args.s.now c.args.i c.args.h (omega arith) c.from-a.ensures c.from-b.ensures c.more-2.ensures
