-- `view_run::print_all_elements` is safe and ends: the elements that are left get fewer.
-- Assumes nothing.
use lib.ListN.{length}
use Rattle.view.specs.Elements.{elements_at}
use Rattle.view_run.proofs.print_all_elements.Given as goal

abbrev pub invariant-loop-spot : goal.invariant-loop-spot
invariant-loop-spot l = Unit {0}

abbrev pub decreases-loop-spot : goal.decreases-loop-spot
decreases-loop-spot l = length (elements_at l.text l.spot)
