-- Any schema: the six functions that read one another meet their contracts.
-- Assumes nothing.
use Rattle.schema.proofs.Nested.{member}
use Rattle.rules.specs.Members.{SureOf}
use Rattle.schema.specs.Did.{Did}
use Rattle.schema.specs.Schema.{within, field_rows, schema_of}
use Rattle.schema.specs.Out.{each, Walked}
use Rattle.form.specs.Spots.{objects_among}
use Rattle.view.specs.Elements.{elements_at}
use lib.ListN.{length}
use Prim.Native.Nat.{◌+◌, ◌*◌}
use mathlib.Core.List.{List}
use mathlib.Core.Path.{◌≡◌}
use Prim.Native.Nat.{ℕ}
use Rattle.schema.proofs.schemas.+put_field_put_fields_put_part_put_record_put_schema_put_union.Given as goal

abbrev pub decreases-put_field : goal.decreases-put_field
decreases-put_field l = 4 * l.left + 1

abbrev pub decreases-put_fields : goal.decreases-put_fields
decreases-put_fields l = 4 * l.left + 2

abbrev pub decreases-put_part : goal.decreases-put_part
decreases-put_part l = 4 * l.left + 1

abbrev pub decreases-put_record : goal.decreases-put_record
decreases-put_record l = 4 * l.left + 3

abbrev pub decreases-put_schema : goal.decreases-put_schema
decreases-put_schema l = 4 * l.left

abbrev pub decreases-put_union : goal.decreases-put_union
decreases-put_union l = 4 * l.left + 1

abbrev pub invariant-put_fields-loop-spot : goal.invariant-put_fields-loop-spot
invariant-put_fields-loop-spot l =
    (length l.draft ≡ length l.initial.draft)
    × ((m : List ℕ) (r : Walked) → Did l.draft l.sum m r (each (field_rows (schema_of l.left l.text (within l.namespace)) l.text l.depth) (objects_among l.text (elements_at l.text l.spot)))
    → Did l.initial.draft l.initial.sum m r (each (field_rows (schema_of l.left l.text (within l.namespace)) l.text l.depth) (objects_among l.text (elements_at l.text l.initial.spot))))
    × (length l.table ≡ length l.initial.table)

abbrev pub decreases-put_fields-loop-spot : goal.decreases-put_fields-loop-spot
decreases-put_fields-loop-spot l = length (elements_at l.text l.spot)

abbrev pub invariant-put_union-loop-spot : goal.invariant-put_union-loop-spot
invariant-put_union-loop-spot l =
    (length l.draft ≡ length l.initial.draft)
    × ((m : List ℕ) (r : Walked) → Did l.draft l.sum m r (each (member (schema_of l.left l.text) l.namespace l.depth l.at) (elements_at l.text l.spot))
    → Did l.initial.draft l.initial.sum m r (each (member (schema_of l.left l.text) l.namespace l.depth l.at) (elements_at l.text l.initial.spot)))
    × SureOf l.text l.namespace l.at l.sure (elements_at l.text l.spot)
    × (length l.table ≡ length l.initial.table)

abbrev pub decreases-put_union-loop-spot : goal.decreases-put_union-loop-spot
decreases-put_union-loop-spot l = length (elements_at l.text l.spot)
