-- `formed::places_fit` meets its contract: the answer for the places that are left is the answer.
-- Assumes nothing.
use mathlib.Core.Path.{ap, ◌∙◌}
use mathlib.Core.Bool.{not}
use Rattle.formed.proofs.DecodeLaws.{places_start, places_room, places_fit, fitting_start, fitting_bad, fitting_more, fitting_end}
use Rattle.formed.proofs.places_fit.Goals as goal

pub loop-place-init : goal.loop-place-init
loop-place-init c = ((places_start _ _ c.requires.1 c.requires.3).0, fitting_start _ _ c.requires.1)

pub first_misfit-requires : goal.first_misfit-requires
first_misfit-requires c = (c.requires.0, places_room _ _ _ _ c.loop-place-test.true c.loop-place.invariant.0 _ c.rows_of-rows.ensures.0)

pub returns-then-is_err : goal.returns-then-is_err
returns-then-is_err c = fitting_bad _ _ _ _ c.loop-place-test.true c.loop-place.invariant.0 _ c.rows_of-rows.ensures.0 _ c.loop-place.invariant.1 _ c.first_misfit.ensures (c.is_err.ensures.negation ∙ ap not c.if-is_err.true)

pub loop-place-preserved : goal.loop-place-preserved
loop-place-preserved c = (places_fit _ _ _ _ c.loop-place-test.true c.loop-place.invariant.0 _ c.rows_of-rows.ensures.0, fitting_more _ _ _ _ c.loop-place-test.true c.loop-place.invariant.0 _ c.rows_of-rows.ensures.0 _ c.loop-place.invariant.1 _ c.first_misfit.ensures (c.is_err.ensures.negation ∙ ap not c.if-is_err.false))

pub returns : goal.returns
returns c = fitting_end _ _ _ _ _ c.loop-place-test.false c.loop-place.invariant.1
