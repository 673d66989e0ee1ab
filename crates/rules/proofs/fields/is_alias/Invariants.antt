-- `rules::fields::is_alias` meets its contract: the answer for what is left is the whole answer.
-- Assumes nothing.
use mathlib.Core.Path.{◌≡◌}
use lib.ListN.{length}
use Rattle.rules.proofs.Earlier.{some}
use Rattle.rules.proofs.Listed.{Alike}
use Rattle.view.specs.Elements.{elements_at}
use Rattle.rules.proofs.fields.is_alias.Given as goal

abbrev pub invariant-loop-spot : goal.invariant-loop-spot
invariant-loop-spot l = some (Alike l.text l.at) (elements_at l.text l.spot) ≡ some (Alike l.text l.at) (elements_at l.text l.initial.spot)

abbrev pub decreases-loop-spot : goal.decreases-loop-spot
decreases-loop-spot l = length (elements_at l.text l.spot)
