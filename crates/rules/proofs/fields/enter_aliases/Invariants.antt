-- `rules::fields::enter_aliases` meets its contract: what is left, entered, gives the whole.
-- Assumes nothing.
use mathlib.Core.Path.{◌≡◌}
use mathlib.Core.List.{map}
use lib.ListN.{length}
use Rattle.rules.specs.Fields.{entered_all}
use Rattle.view.specs.Strings.{string_at}
use Rattle.view.specs.Elements.{elements_at}
use Rattle.rules.proofs.fields.enter_aliases.Given as goal

abbrev pub invariant-loop-spot : goal.invariant-loop-spot
invariant-loop-spot l = (length l.table ≡ length l.initial.table) × (entered_all l.table (map (string_at l.text) (elements_at l.text l.spot)) ≡ entered_all l.initial.table (map (string_at l.text) (elements_at l.text l.initial.spot)))

abbrev pub decreases-loop-spot : goal.decreases-loop-spot
decreases-loop-spot l = length (elements_at l.text l.spot)
