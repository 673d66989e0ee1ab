-- The walk of `fits::walk` meets its contracts: each way out is one law, each loop's answer for what is left is the answer, and
-- tables that are true stay true.
-- Assumes nothing.
use mathlib.Core.Path.{◌≡◌}
use Prim.Native.Nat.{◌+◌, ◌-◌, ◌*◌, ◌≤◌}
use Rattle.fits.proofs.FitLaws.{Visiting}
use Rattle.view.proofs.Laws.{key_of}
use Rattle.resolve.specs.Rules.{some}
use Rattle.fits.specs.Types.{parts_under}
use Rattle.fits.specs.Fits.{member_fits, field_fits, one_fits}
use Rattle.fits.specs.Steps.{type_at, parts_from, fitting, Verdicts, Found}
use Rattle.view.specs.Elements.{elements_at, elements}
use Rattle.view.specs.Members.{keys_at, members_at}
use Rattle.name.specs.Name.{every}
use Rattle.row.specs.Memory.{entry_at}
use Rattle.row.specs.Sets.{rows_from}
use lib.ListN.{length}
use Rattle.fits.proofs.walk.+any_array_field_fits_at_map_nested_one_plain_record_of_some_one.Given as goal

abbrev pub decreases-any : goal.decreases-any
decreases-any l = 8 * l.left + 7

abbrev pub decreases-array : goal.decreases-array
decreases-array l = 8 * l.left + 2

abbrev pub decreases-field : goal.decreases-field
decreases-field l = 8 * l.left + 1

abbrev pub decreases-fits_at : goal.decreases-fits_at
decreases-fits_at l = 8 * l.left

abbrev pub decreases-map : goal.decreases-map
decreases-map l = 8 * l.left + 2

abbrev pub decreases-nested : goal.decreases-nested
decreases-nested l = 8 * l.left + 3

abbrev pub decreases-one : goal.decreases-one
decreases-one l = 8 * l.left + 5

abbrev pub decreases-plain : goal.decreases-plain
decreases-plain l = 8 * l.left + 4

abbrev pub decreases-record_of : goal.decreases-record_of
decreases-record_of l = 8 * l.left + 2

abbrev pub decreases-some_one : goal.decreases-some_one
decreases-some_one l = 8 * l.left + 6

abbrev pub invariant-array-loop-spot : goal.invariant-array-loop-spot
invariant-array-loop-spot l = (length l.verdicts ≡ length l.initial.verdicts) × (length l.found ≡ length l.initial.found) × (every (fitting l.mem l.n l.text l.left (type_at l.mem l.n l.items)) (elements_at l.text l.spot) ≡ every (fitting l.mem l.n l.text l.left (type_at l.mem l.n l.items)) (elements l.text l.at)) × Verdicts l.mem l.n l.text l.verdicts × Found l.mem l.n l.found

abbrev pub decreases-array-loop-spot : goal.decreases-array-loop-spot
decreases-array-loop-spot l = length (elements_at l.text l.spot)

abbrev pub invariant-map-loop-entry : goal.invariant-map-loop-entry
invariant-map-loop-entry l = (length l.verdicts ≡ length l.initial.verdicts) × (length l.found ≡ length l.initial.found) × Visiting l.text (member_fits l.text (fitting l.mem l.n l.text l.left) (type_at l.mem l.n l.values) l.at) (every (member_fits l.text (fitting l.mem l.n l.text l.left) (type_at l.mem l.n l.values) l.at) (members_at l.text l.at)) l.entry × Verdicts l.mem l.n l.text l.verdicts × Found l.mem l.n l.found

abbrev pub decreases-map-loop-entry : goal.decreases-map-loop-entry
decreases-map-loop-entry l = length (keys_at l.text (key_of l.entry))

abbrev pub invariant-record_of-loop-i : goal.invariant-record_of-loop-i
invariant-record_of-loop-i l = (length l.verdicts ≡ length l.initial.verdicts) × (length l.found ≡ length l.initial.found) × (l.i ≤ l.n) × (every (field_fits l.text (fitting l.mem l.n l.text l.left) l.at) (parts_from l.mem l.n l.depth l.i) ≡ every (field_fits l.text (fitting l.mem l.n l.text l.left) l.at) (parts_under (entry_at l.mem l.row).depth (type_at l.mem l.n (l.row + 1)))) × Verdicts l.mem l.n l.text l.verdicts × Found l.mem l.n l.found

abbrev pub decreases-record_of-loop-i : goal.decreases-record_of-loop-i
decreases-record_of-loop-i l = l.n - l.i

abbrev pub invariant-some_one-loop-m : goal.invariant-some_one-loop-m
invariant-some_one-loop-m l = (length l.verdicts ≡ length l.initial.verdicts) × (length l.found ≡ length l.initial.found) × (l.m ≤ l.n) × (some (one_fits (rows_from l.mem l.n 0) l.text (fitting l.mem l.n l.text l.left) l.at) (parts_from l.mem l.n l.depth l.m) ≡ some (one_fits (rows_from l.mem l.n 0) l.text (fitting l.mem l.n l.text l.left) l.at) (parts_under (entry_at l.mem l.row).depth (type_at l.mem l.n (l.row + 1)))) × Verdicts l.mem l.n l.text l.verdicts × Found l.mem l.n l.found

abbrev pub decreases-some_one-loop-m : goal.decreases-some_one-loop-m
decreases-some_one-loop-m l = l.n - l.m
