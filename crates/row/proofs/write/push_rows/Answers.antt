-- `row::write::push_rows` meets its contract. The invariant: the rows left, pushed, give what all of them give.
-- Assumes nothing.
use Prim.Native.Nat.{◌+◌}
use native.Mathlib.Omega.{arith}
use Rattle.row.proofs.WriteLaws.{push_start, push_turn, push_end}
use Rattle.row.proofs.write.push_rows.Goals as goal

pub loop-i-init : goal.loop-i-init
loop-i-init c = (rw push_start, rw push_start)

pub loop-i-preserved : goal.loop-i-preserved
loop-i-preserved c =
    push_turn _ _ _ (c.args.start + c.args.n) c.loop-i.i _ _ c.loop-i.invariant.0 c.loop-i.invariant.1 c.loop-i-test.true _ _ _ c.read_row-row.ensures c.string_of.ensures.0 c.default_of.ensures.0 _ _ c.push_both-sum.ensures.0 c.push_both-sum.ensures.1

pub returns : goal.returns
returns c = push_end _ _ _ (c.args.start + c.args.n) c.loop-i.i _ _ c.loop-i.invariant.0 c.loop-i.invariant.1 (omega arith)
