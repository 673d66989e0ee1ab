-- `declare::spot::spot_of` meets its contract: the spot behind what is left, from the spot so far, is that of the position.
-- Assumes nothing.
use mathlib.Core.Path.{refl}
use native.Mathlib.Omega.{arith}
use lib.ListN.{length-take}
use Rattle.declare.specs.Spots.{spot_of}
use Rattle.declare.proofs.SpotLaws.{step_line, step_some, step_column, spot_turn, spot_end}
use Rattle.declare.proofs.spot.spot_of.Goals as goal

pub loop-b-init : goal.loop-b-init
unfolding spot_of
loop-b-init c = (omega arith, omega arith, omega arith, refl)

pub loop-b-preserved : goal.loop-b-preserved
loop-b-preserved c = (step_line _ _ _ c.step-spot.ensures _ c.loop-b.invariant.0, step_some _ _ _ c.step-spot.ensures 0, step_column _ _ _ c.step-spot.ensures _ c.loop-b.invariant.2, spot_turn _ _ _ _ c.loop-b.invariant.3 c.loop-b-test.true _ c.step-spot.ensures)

pub returns : goal.returns
returns c =
    let n = length-take c.args.at c.args.text.now in
    (spot_end _ _ _ _ c.loop-b.invariant.3 c.loop-b-test.false, omega arith, omega (arith, n))
