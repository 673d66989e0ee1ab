-- `resolve::clash::no_clash` meets its contract. The invariant: no row looked at clashes with an earlier one, and each of them is on its chain.
-- Assumes nothing.
use mathlib.Core.Path.{refl, sym, ◌∙◌}
use native.Mathlib.Omega.{arith}
use Rattle.resolve.proofs.TreeLaws.{unruled}
use Rattle.resolve.proofs.ChainLaws.{under_none, under_past, clash_start, clash_end, clash_stop, clash_hit, clash_more, clash_past}
use Rattle.resolve.proofs.clash.no_clash.Goals as goal
use Rattle.resolve.proofs.clash.no_clash.Goals.{else-may_meet-via-then-may_meet+else-meets_earlier, else-may_meet-via-else-may_meet}

pub returns-then-not-is_ruled : goal.returns-then-not-is_ruled
returns-then-not-is_ruled c = (unruled _ _ _ _ c.kind_at-kind.ensures (sym c.is_ruled.ensures ∙ c.if-not-is_ruled.true), c.requires.3)

pub loop-j-init : goal.loop-j-init
loop-j-init c = (c.requires.3, under_none _ _ _ _ _ _, clash_start _ _ _ _ _ refl c.depth_at-depth.ensures.0)

pub returns-then-depth_at-depth : goal.returns-then-depth_at-depth
returns-then-depth_at-depth c = (clash_stop _ _ _ _ _ _ _ c.loop-j.invariant.2 c.loop-j-test.true _ c.depth_at.ensures.0 c.if-depth_at-depth.true, c.loop-j.invariant.0)

pub returns-then-meets_earlier : goal.returns-then-meets_earlier
returns-then-meets_earlier c = (clash_hit _ _ _ _ _ _ _ c.loop-j.invariant.2 c.loop-j-test.true _ c.depth_at.ensures.0 (omega arith) c.meets_earlier.ensures.0 c.if-meets_earlier.true, c.meets_earlier.ensures.1)

pub loop-j-preserved : goal.loop-j-preserved
loop-j-preserved c =
    elim c.else-may_meet.branch [
      | else-may_meet-via-then-may_meet+else-meets_earlier w ↦
          rw (w.first-is, w.next-is)
          (w.meets_earlier.ensures.1, w.meets_earlier.ensures.2, clash_more _ _ _ _ _ _ _ c.loop-j.invariant.2 c.loop-j-test.true _ c.depth_at.ensures.0 (omega arith) w.meets_earlier.ensures.0 (omega arith) w.if-meets_earlier.false)
      | else-may_meet-via-else-may_meet w ↦
          let e = sym (rw c.kind_at-kind.ensures at c.may_meet.ensures) ∙ w.if-may_meet.false in
          rw (w.first-is, w.next-is)
          (c.loop-j.invariant.0, under_past _ _ _ _ _ _ _ c.loop-j.invariant.1 e, clash_past _ _ _ _ _ _ _ c.loop-j.invariant.2 c.loop-j-test.true _ c.depth_at.ensures.0 (omega arith) (omega arith) e)
    ]

pub returns : goal.returns
returns c = (clash_end _ _ _ _ _ _ _ c.loop-j.invariant.2 c.loop-j-test.false, c.loop-j.invariant.0)
