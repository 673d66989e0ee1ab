-- `rules::unions::is_new_kind` meets its contract: the answer for what is left is the whole answer.
-- Assumes nothing.
use mathlib.Core.Path.{◌≡◌}
use lib.ListN.{length}
use Rattle.rules.proofs.Earlier.{some}
use Rattle.rules.proofs.Heads.{Numbered}
use Rattle.rules.specs.Unions.{before}
use Rattle.view.specs.Elements.{elements, elements_at}
use Rattle.rules.proofs.unions.is_new_kind.Given as goal

abbrev pub invariant-loop-spot : goal.invariant-loop-spot
invariant-loop-spot l = some (Numbered l.text l.number) (before l.member (elements_at l.text l.spot)) ≡ some (Numbered l.text l.number) (before l.member (elements l.text l.array))

abbrev pub decreases-loop-spot : goal.decreases-loop-spot
decreases-loop-spot l = length (elements_at l.text l.spot)
