-- `view::marks::with_byte` meets its contract.
-- Assumes nothing.
use Rattle.view.proofs.Marking.{held_first, held_second, held_third}
use native.Mathlib.Omega.{arith}
use Rattle.view.proofs.marks.with_byte.Goals as goal

pub returns-in-0 : goal.returns-in-0
returns-in-0 c = held_first _ _ _ _ c.from-x.ensures (omega arith) c.in-0.is

pub returns-in-1 : goal.returns-in-1
returns-in-1 c = held_second _ _ _ _ c.from-x.ensures (omega arith) c.in-1.is (c.requires.first c.in-1.is)

pub returns-in_default : goal.returns-in_default
returns-in_default c = held_third _ _ c.args.m.n _ c.from-x.ensures (omega arith) (λ e. omega arith) (λ e. omega arith) c.more.ensures
