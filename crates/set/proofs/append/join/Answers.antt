-- `set::append::join` meets its contract.
-- Assumes nothing.
use Rattle.set.proofs.Places.{counts_asks}
use Rattle.set.proofs.Appends.{rows_most, bytes_most, join_rows, join_strings, join_asks, push_asks, join_fault, join_done}
use native.Mathlib.Omega.{arith}
use Rattle.set.proofs.append.join.Goals as goal

pub counts-sum-requires : goal.counts-sum-requires
counts-sum-requires c = counts_asks _ c.requires.0

pub overflow_sub-sum : goal.overflow_sub-sum
overflow_sub-sum c = rows_most _ c.requires.0 _ c.counts-sum.ensures

pub returns-then-sum-n : goal.returns-then-sum-n
returns-then-sum-n c = λ rows d. join_rows _ c.requires.0 _ c.counts-sum.ensures _ _ _ _ c.if-sum-n.true rows d c.refused.ensures

pub overflow_sub-sum-2 : goal.overflow_sub-sum-2
overflow_sub-sum-2 c = bytes_most _ c.requires.0 _ c.counts-sum.ensures

pub returns-then-sum-bytes : goal.returns-then-sum-bytes
returns-then-sum-bytes c = λ rows d. join_strings _ c.requires.0 _ c.counts-sum.ensures _ _ _ _ c.if-sum-n.false c.if-sum-bytes.true rows d c.refused-then-sum-bytes.ensures

pub first_fault-requires : goal.first_fault-requires
first_fault-requires c = let d = join_asks _ c.requires.0 _ c.counts-sum.ensures _ _ _ _ c.if-sum-n.false c.if-sum-bytes.false c.requires.2 in (d.0, omega (arith, d.1), d.2, omega (arith, d.3))

pub push-requires : goal.push-requires
push-requires c = push_asks _ c.requires.0 _ c.counts-sum.ensures _ _ _ _ c.if-sum-n.false c.if-sum-bytes.false c.requires.2 c.requires.1

pub returns-in-Err : goal.returns-in-Err
returns-in-Err c = λ rows d. join_fault _ c.requires.0 _ c.counts-sum.ensures _ _ _ _ c.if-sum-n.false c.if-sum-bytes.false _ c.first_fault.ensures c.in-Err.is rows d c.placed.ensures

pub returns-in-Ok : goal.returns-in-Ok
returns-in-Ok c = λ rows d. join_done _ c.requires.0 _ c.counts-sum.ensures _ _ _ _ c.if-sum-n.false c.if-sum-bytes.false _ c.first_fault.ensures c.requires.1 c.in-Ok.is c.push.ensures.0 c.push.ensures.1 rows d
