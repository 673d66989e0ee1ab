-- `rules::fields::is_taken` meets its contract: the answer for what is left is the whole answer.
-- Assumes nothing.
use mathlib.Core.Path.{◌≡◌}
use lib.ListN.{length}
use Rattle.rules.proofs.Earlier.{some}
use Rattle.rules.proofs.Listed.{Takes}
use Rattle.rules.specs.Unions.{before}
use Rattle.view.specs.Elements.{elements, elements_at}
use Rattle.rules.proofs.fields.is_taken.Given as goal

abbrev pub invariant-loop-spot : goal.invariant-loop-spot
invariant-loop-spot l = some (Takes l.text l.at) (before l.place (elements_at l.text l.spot)) ≡ some (Takes l.text l.at) (before l.place (elements l.text l.array))

abbrev pub decreases-loop-spot : goal.decreases-loop-spot
decreases-loop-spot l = length (elements_at l.text l.spot)
