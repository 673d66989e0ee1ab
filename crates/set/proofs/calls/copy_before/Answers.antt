-- `set::calls::copy_before` meets its contract.
-- Assumes nothing.
use Rattle.set.proofs.Rests.{copied_none, place_asks, copy_asks, copied_more, copied_long, copied_all}
use borrow.Author.Rules.{rules}
use native.Mathlib.Omega.{arith}
use Rattle.set.proofs.calls.copy_before.Goals as goal

pub loop-i-init : goal.loop-i-init
loop-i-init c = (omega arith, copied_none _ _ _ c.requires.2 c.none-sum.ensures)

pub rows_of-n-requires : goal.rows_of-n-requires
rows_of-n-requires c = place_asks _ c.requires.0 c.loop-i.i (omega (arith, c.loop-i-test.true, c.requires.1))

pub push-sum-requires : goal.push-sum-requires
push-sum-requires c = copy_asks _ c.requires.0 c.loop-i.i (omega (arith, c.loop-i-test.true, c.requires.1)) _ c.rows_of-n.ensures.0 _ _ c.loop-i.invariant.1

pub loop-i-preserved : goal.loop-i-preserved
loop-i-preserved c = (search rules, copied_more _ c.requires.0 c.loop-i.i (omega (arith, c.loop-i-test.true, c.requires.1)) _ c.rows_of-n.ensures.0 _ _ c.loop-i.invariant.1 _ _ c.push-sum.ensures.0 c.push-sum.ensures.1)

pub shape_of-out : goal.shape_of-out
shape_of-out c = copied_long _ c.requires.0 _ _ _ c.requires.2 c.loop-i.invariant.1

pub returns : goal.returns
returns c = copied_all _ _ _ c.loop-i.invariant.0 c.loop-i-test.false _ _ c.loop-i.invariant.1
