-- `rules::fields::all_names` meets its contract: what is left of the check, given what was passed, is the whole one.
-- Assumes nothing.
use mathlib.Core.Path.{◌≡◌}
use mathlib.Core.List.{[]}
use lib.ListN.{length}
use Rattle.rules.proofs.Listed.{fields_left}
use Rattle.rules.proofs.Entering.{Marked}
use Rattle.rules.specs.Fields.{field_names_check, taken_among}
use Rattle.form.specs.Spots.{fields_in}
use Rattle.view.specs.Elements.{elements_at}
use Rattle.rules.proofs.fields.all_names.Given as goal

abbrev pub invariant-loop-spot : goal.invariant-loop-spot
invariant-loop-spot l = (length l.table ≡ length l.initial.table) × Marked l.text l.array l.spot l.table (taken_among l.text) (fields_left l.text) (field_names_check l.text [] (fields_in l.text l.array))

abbrev pub decreases-loop-spot : goal.decreases-loop-spot
decreases-loop-spot l = length (elements_at l.text l.spot)
