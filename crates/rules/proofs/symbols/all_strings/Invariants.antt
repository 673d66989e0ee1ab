-- `rules::symbols::all_strings` meets its contract: the check of what is left is the whole one.
-- Assumes nothing.
use mathlib.Core.Path.{◌≡◌}
use lib.ListN.{length}
use Rattle.rules.proofs.Listed.{strings_of}
use Rattle.view.specs.Elements.{elements, elements_at}
use Rattle.rules.proofs.symbols.all_strings.Given as goal

abbrev pub invariant-loop-spot : goal.invariant-loop-spot
invariant-loop-spot l = strings_of l.text (elements_at l.text l.spot) ≡ strings_of l.text (elements l.text l.array)

abbrev pub decreases-loop-spot : goal.decreases-loop-spot
decreases-loop-spot l = length (elements_at l.text l.spot)
