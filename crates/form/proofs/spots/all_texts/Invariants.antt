-- `form::spots::all_texts` meets its contract: the answer for what is left is the whole answer.
-- Assumes nothing.
use mathlib.Core.Path.{◌≡◌}
use lib.ListN.{length}
use Rattle.form.specs.Spots.{all_texts}
use Rattle.view.specs.Elements.{elements, elements_at}
use Rattle.form.proofs.spots.all_texts.Given as goal

abbrev pub invariant-loop-spot : goal.invariant-loop-spot
invariant-loop-spot l = all_texts l.text (elements_at l.text l.spot) ≡ all_texts l.text (elements l.text l.array)

abbrev pub decreases-loop-spot : goal.decreases-loop-spot
decreases-loop-spot l = length (elements_at l.text l.spot)
