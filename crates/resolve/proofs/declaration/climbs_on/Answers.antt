-- `resolve::declaration::climbs_on` meets its contract. The invariant: the rows left climb on from the depth of the row before them.
-- Assumes nothing.
use mathlib.Core.Path.{refl}
use native.Mathlib.Omega.{arith}
use Rattle.resolve.proofs.TreeLaws.{climb_end, climb_bad, climb_more}
use Rattle.resolve.proofs.declaration.climbs_on.Goals as goal
use Rattle.resolve.proofs.declaration.climbs_on.Goals.{then-d-eq0-via-then-d-eq0, then-d-eq0-via-else-d-eq0+then-depth-d}

pub loop-i-init : goal.loop-i-init
loop-i-init c = (omega arith, refl)

pub returns-then-d-eq0 : goal.returns-then-d-eq0
returns-then-d-eq0 c =
    climb_bad _ _ _ _ _ c.loop-i.invariant.1 c.loop-i-test.true _ c.depth_at-d.ensures.0
    (λ h. elim c.then-d-eq0.branch [ then-d-eq0-via-then-d-eq0 w ↦ omega arith | then-d-eq0-via-else-d-eq0+then-depth-d w ↦ omega arith ])

pub loop-i-preserved : goal.loop-i-preserved
loop-i-preserved c = (c.depth_at-d.ensures.1, climb_more _ _ _ _ _ c.loop-i.invariant.1 c.loop-i-test.true _ c.depth_at-d.ensures.0 c.if-d-eq0.false c.if-depth-d.false)

pub returns : goal.returns
returns c = climb_end _ _ _ _ _ c.loop-i.invariant.1 c.loop-i-test.false
