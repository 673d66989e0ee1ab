-- `row::read::rows_before` meets its contract. The invariant: the rows counted and those of the places left are all rows before the place.
-- Assumes nothing.
use native.Mathlib.Omega.{arith}
use Rattle.row.proofs.ReadLaws.{before_start, before_turn, before_end}
use Rattle.row.proofs.read.rows_before.Goals as goal

pub loop-i-init : goal.loop-i-init
loop-i-init c = (omega arith, before_start _ _)

pub loop-i-preserved : goal.loop-i-preserved
loop-i-preserved c = (omega arith, before_turn _ _ _ _ _ c.loop-i.invariant.1 c.loop-i-test.true _ c.rows_of-sum.ensures.0)

pub returns : goal.returns
returns c = before_end _ _ _ _ _ c.loop-i.invariant.1 c.loop-i-test.false
