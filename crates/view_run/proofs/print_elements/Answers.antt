-- `view_run::print_elements` is safe and ends: the elements that are left get fewer.
-- Assumes nothing.
use mathlib.Core.Path.{ap}
use native.Mathlib.Omega.{arith}
use lib.ListN.{length}
use Rattle.view.proofs.Laws.{left_next}
use Rattle.view_run.proofs.print_elements.Goals as goal

pub loop-spot-smaller : goal.loop-spot-smaller
loop-spot-smaller c = omega (arith, ap length (left_next _ c.in-Some.is c.next_element-spot.ensures))
