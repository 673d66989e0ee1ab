-- Any schema: the six functions that read one another meet their contracts.
-- Assumes nothing.
use Rattle.std.proofs.lemmas.Result.{err_from_is_err_and}
use Rattle.schema.proofs.Nested.{schema_deep, schema_wrong, schema_word, schema_array, schema_map, schema_union, schema_record, schema_enum, schema_fixed, part_old, part_none, part_one, union_old, union_rows_lem, record_bad, record_none, record_fields, fields_bad, fields_end, fields_done, fields_next, element_none, element_field, field_stop, field_untyped, field_typed}
use Rattle.schema.proofs.Leaves.{default_in}
use Rattle.schema.proofs.Steps.{each_done, each_next}
use Rattle.schema.proofs.Stands.{member_is, sure_here, sure_next, sure_start}
use Rattle.seen.proofs.Laws.{sized_as}
use Rattle.schema.proofs.Within.{array_within, map_within, union_within}
use Rattle.schema.proofs.Did.{did_bad, did_none, did_eq, did_stop, did_then, titled_front}
use Rattle.form.proofs.Laws.{visit_less, found_form}
use mathlib.Core.Path.{refl, ◌∙◌}
use native.Mathlib.Omega.{arith}
use borrow.Author.Rules.{rules}
use Rattle.schema.proofs.schemas.+put_field_put_fields_put_part_put_record_put_schema_put_union.Goals as goal

pub put_field-returns-then-not-is_object : goal.put_field-returns-then-not-is_object
put_field-returns-then-not-is_object t c = did_eq (element_none _ _ _ _ c.is_object.ensures c.if-not-is_object.true) (did_none _ _)

pub put_field-put_field_head-requires : goal.put_field-put_field_head-requires
put_field-put_field_head-requires t c = (c.requires.0.short, omega arith, default_in _ _ c.members_at-members.ensures, c.requires.1)

pub put_field-returns-in_default : goal.put_field-returns-in_default
put_field-returns-in_default t c = did_eq (element_field _ _ _ _ c.is_object.ensures c.if-not-is_object.false) (field_untyped _ _ _ _ c.members_at-members.ensures c.put_field_head.ensures c.in_ok-next.was c.in_default.is)

pub put_field-overflow_add-depth : goal.put_field-overflow_add-depth
put_field-overflow_add-depth t c = omega arith

pub put_field-put_schema-requires : goal.put_field-put_schema-requires
put_field-put_schema-requires t c = (omega arith, c.requires)

pub put_field-returns-in_err-next : goal.put_field-returns-in_err-next
put_field-returns-in_err-next t c =
    let p = err_from_is_err_and c.from_residual.result c.from_residual.ensures.1 in
    rw (p.1, p.2) (did_eq (element_field _ _ _ _ c.is_object.ensures c.if-not-is_object.false) (field_stop _ _ _ _ c.members_at-members.ensures c.put_field_head.ensures c.in_err-next.was))

pub put_field-returns : goal.put_field-returns
put_field-returns t c = did_eq (element_field _ _ _ _ c.is_object.ensures c.if-not-is_object.false) (field_typed _ _ _ _ c.members_at-members.ensures c.put_field_head.ensures c.in_ok-next.was c.in-Some.is c.put_schema.ensures)

pub put_fields-loop-spot-init : goal.put_fields-loop-spot-init
put_fields-loop-spot-init t c = (refl, (λ m r d. d), refl)

pub put_fields-named_apart-requires : goal.put_fields-named_apart-requires
put_fields-named_apart-requires t c = (c.requires.1, sized_as c.requires.2 c.loop-spot.invariant.2)

pub put_fields-returns : goal.put_fields-returns
put_fields-returns t c = fields_end _ _ _ _ c.first_element-spot.ensures (c.loop-spot.invariant.1 _ _ (did_eq (fields_done _ _ _ c.in_default.is) (did_none _ _))) c.named_apart.ensures

pub put_fields-put_field-requires : goal.put_fields-put_field-requires
put_fields-put_field-requires t c = (omega arith, (c.requires.0, c.requires.1, sized_as c.requires.2 c.loop-spot.invariant.2))

pub put_fields-returns-in_err-sum : goal.put_fields-returns-in_err-sum
put_fields-returns-in_err-sum t c =
    let p = err_from_is_err_and c.from_residual.result c.from_residual.ensures.1 in
    rw (p.1, p.2) (fields_bad _ _ _ _ c.first_element-spot.ensures (c.loop-spot.invariant.1 _ _ (did_eq (fields_next _ _ _ c.in-Some.is refl) (did_stop _ _ c.put_field.ensures c.in_err-sum.was))))

pub put_fields-loop-spot-smaller : goal.put_fields-loop-spot-smaller
put_fields-loop-spot-smaller t c = visit_less _ c.in-Some.is c.next_element-spot.ensures

pub put_fields-loop-spot-preserved : goal.put_fields-loop-spot-preserved
put_fields-loop-spot-preserved t c = (search rules, (λ m r d. c.loop-spot.invariant.1 m r (did_eq (fields_next _ _ _ c.in-Some.is c.next_element-spot.ensures) (did_then _ _ c.put_field.ensures c.in_ok-sum.was d))), search rules)

pub put_part-returns-in_err-new_kind : goal.put_part-returns-in_err-new_kind
put_part-returns-in_err-new_kind t c =
    let p = err_from_is_err_and c.from_residual.result c.from_residual.ensures.1 in
    rw (p.1, p.2) (part_old _ _ _ _ _ _ _ _ _ c.new_kind.ensures c.in_err-new_kind.was)

pub put_part-returns-in_default : goal.put_part-returns-in_default
put_part-returns-in_default t c = part_none _ _ _ _ _ _ _ _ _ c.new_kind.ensures c.in_ok-new_kind.was c.in_default.is

pub put_part-put-next-requires : goal.put_part-put-next-requires
put_part-put-next-requires t c = c.requires.1

pub put_part-overflow_add-depth : goal.put_part-overflow_add-depth
put_part-overflow_add-depth t c = omega arith

pub put_part-put_schema-requires : goal.put_part-put_schema-requires
put_part-put_schema-requires t c = (omega arith, (c.requires.0, c.requires.2, c.requires.3))

pub put_part-returns : goal.put_part-returns
put_part-returns t c = part_one _ _ _ _ _ _ _ _ _ c.new_kind.ensures c.in_ok-new_kind.was c.in-Some.is c.put-next.ensures c.put_schema.ensures

pub put_record-define-requires : goal.put_record-define-requires
put_record-define-requires t c = (c.requires.0.short, omega arith, c.requires.1)

pub put_record-returns-in_default : goal.put_record-returns-in_default
put_record-returns-in_default t c = record_none _ _ _ _ _ _ _ c.define.ensures c.in_ok-defined.was c.as_array.ensures c.in_default.is

pub put_record-slice_bounds-namespace_part-end : goal.put_record-slice_bounds-namespace_part-end
put_record-slice_bounds-namespace_part-end t c = let h = (titled_front _ c.define.ensures c.in_ok-defined.was).0 in omega arith

pub put_record-overflow_add-depth : goal.put_record-overflow_add-depth
put_record-overflow_add-depth t c = omega arith

pub put_record-put_fields-requires : goal.put_record-put_fields-requires
put_record-put_fields-requires t c = (omega arith, (record { short = c.requires.0.short; deep = omega arith }, c.requires.1, c.requires.2))

pub put_record-returns-in_err-defined : goal.put_record-returns-in_err-defined
put_record-returns-in_err-defined t c =
    let p = err_from_is_err_and c.from_residual.result c.from_residual.ensures.1 in
    rw (p.1, p.2) (record_bad _ _ _ _ _ _ _ c.define.ensures c.in_err-defined.was)

pub put_record-returns : goal.put_record-returns
put_record-returns t c = record_fields _ _ _ _ _ _ _ c.define.ensures c.in_ok-defined.was c.as_array.ensures c.in-Some.is c.namespace_part-own.ensures c.put_fields.ensures

pub put_schema-returns-then-left-eq0 : goal.put_schema-returns-then-left-eq0
put_schema-returns-then-left-eq0 t c = did_eq (schema_deep _ _ _ _ _ c.if-left-eq0.true) (did_bad _ _ _ _)

pub put_schema-put_word-requires : goal.put_schema-put_word-requires
put_schema-put_word-requires t c = (c.requires.0.short, c.requires.1)

pub put_schema-put_part-requires : goal.put_schema-put_part-requires
put_schema-put_part-requires t c = let h = array_within _ _ (found_form _ _ c.find-found.ensures c.in-ArrayOf.is) in (omega arith, (record { short = c.requires.0.short; deep = omega arith }, omega arith, c.requires.1, c.requires.2))

pub put_schema-put_part-requires-in-MapOf : goal.put_schema-put_part-requires-in-MapOf
put_schema-put_part-requires-in-MapOf t c = let h = map_within _ _ (found_form _ _ c.find-found.ensures c.in-MapOf.is) in (omega arith, (record { short = c.requires.0.short; deep = omega arith }, omega arith, c.requires.1, c.requires.2))

pub put_schema-put_union-requires : goal.put_schema-put_union-requires
put_schema-put_union-requires t c = let h = union_within _ _ (found_form _ _ c.find-found.ensures c.in-UnionOf.is) in (omega arith, (record { short = c.requires.0.short; deep = omega arith }, omega arith, c.requires.1, c.requires.2))

pub put_schema-put_record-requires : goal.put_schema-put_record-requires
put_schema-put_record-requires t c = (omega arith, (record { short = c.requires.0.short; deep = omega arith }, c.requires.1, c.requires.2))

pub put_schema-put_enum-requires : goal.put_schema-put_enum-requires
put_schema-put_enum-requires t c = (c.requires.0.short, omega arith, c.requires.1, c.requires.2)

pub put_schema-put_fixed-requires : goal.put_schema-put_fixed-requires
put_schema-put_fixed-requires t c = (c.requires.0.short, omega arith, c.requires.1)

pub put_schema-returns-in-Wrong : goal.put_schema-returns-in-Wrong
put_schema-returns-in-Wrong t c = did_eq (schema_wrong _ _ _ _ _ c.if-left-eq0.false c.find-found.ensures c.in-Wrong.is) (did_bad _ _ _ _)

pub put_schema-returns-in-Word : goal.put_schema-returns-in-Word
put_schema-returns-in-Word t c = did_eq (schema_word _ _ _ _ _ c.if-left-eq0.false c.find-found.ensures c.in-Word.is) c.put_word.ensures

pub put_schema-returns-in-ArrayOf : goal.put_schema-returns-in-ArrayOf
put_schema-returns-in-ArrayOf t c = did_eq (schema_array _ _ _ _ _ c.if-left-eq0.false c.find-found.ensures c.in-ArrayOf.is) c.put_part.ensures

pub put_schema-returns-in-MapOf : goal.put_schema-returns-in-MapOf
put_schema-returns-in-MapOf t c = did_eq (schema_map _ _ _ _ _ c.if-left-eq0.false c.find-found.ensures c.in-MapOf.is) c.put_part-in-MapOf.ensures

pub put_schema-returns-in-UnionOf : goal.put_schema-returns-in-UnionOf
put_schema-returns-in-UnionOf t c = did_eq (schema_union _ _ _ _ _ c.if-left-eq0.false c.find-found.ensures c.in-UnionOf.is) c.put_union.ensures

pub put_schema-returns-in-RecordOf : goal.put_schema-returns-in-RecordOf
put_schema-returns-in-RecordOf t c = did_eq (schema_record _ _ _ _ _ c.if-left-eq0.false c.find-found.ensures c.in-RecordOf.is) c.put_record.ensures

pub put_schema-returns-in-EnumOf : goal.put_schema-returns-in-EnumOf
put_schema-returns-in-EnumOf t c = did_eq (schema_enum _ _ _ _ _ c.if-left-eq0.false c.find-found.ensures c.in-EnumOf.is) c.put_enum.ensures

pub put_schema-returns-in-FixedOf : goal.put_schema-returns-in-FixedOf
put_schema-returns-in-FixedOf t c = did_eq (schema_fixed _ _ _ _ _ c.if-left-eq0.false c.find-found.ensures c.in-FixedOf.is) c.put_fixed.ensures

pub put_union-returns-in_err-new_kind : goal.put_union-returns-in_err-new_kind
put_union-returns-in_err-new_kind t c =
    let p = err_from_is_err_and c.from_residual.result c.from_residual.ensures.1 in
    rw (p.1, p.2) (union_old _ _ _ _ _ _ c.new_kind.ensures c.in_err-new_kind.was)

pub put_union-surely_new-sure-requires : goal.put_union-surely_new-sure-requires
put_union-surely_new-sure-requires t c = (c.requires.0.short, c.requires.2, c.requires.3)

pub put_union-put-sum-requires : goal.put_union-put-sum-requires
put_union-put-sum-requires t c = c.requires.1

pub put_union-loop-spot-init : goal.put_union-loop-spot-init
put_union-loop-spot-init t c = (refl, (λ m r d. d), sure_start _ _ _ _ c.surely_new-sure.ensures c.first_element-spot.ensures, refl)

pub put_union-returns : goal.put_union-returns
put_union-returns t c = union_rows_lem _ _ _ _ _ _ c.new_kind.ensures c.in_ok-new_kind.was c.put-sum.ensures c.first_element-spot.ensures (c.loop-spot.invariant.1 _ _ (did_eq (each_done _ _ c.in_default.is) (did_none _ _)))

pub put_union-overflow_add-depth : goal.put_union-overflow_add-depth
put_union-overflow_add-depth t c = omega arith

pub put_union-put_schema-requires : goal.put_union-put_schema-requires
put_union-put_schema-requires t c = (omega arith, (c.requires.0, c.requires.2, sized_as c.requires.3 (c.loop-spot.invariant.3 ∙ c.surely_new-sure.auto.table)))

pub put_union-shape_of-table-in_err-sum : goal.put_union-shape_of-table-in_err-sum
put_union-shape_of-table-in_err-sum t c = c.put_schema.auto.table ∙ c.loop-spot.invariant.3 ∙ c.surely_new-sure.auto.table

pub put_union-returns-in_err-sum : goal.put_union-returns-in_err-sum
put_union-returns-in_err-sum t c =
    let p = err_from_is_err_and c.from_residual-in_err-sum.result c.from_residual-in_err-sum.ensures.1 in
    rw (p.1, p.2) (union_rows_lem _ _ _ _ _ _ c.new_kind.ensures c.in_ok-new_kind.was c.put-sum.ensures c.first_element-spot.ensures (c.loop-spot.invariant.1 _ _ (did_eq (each_next _ _ c.in-Some.is refl) (did_stop _ _ (did_eq (member_is c.args.text.now c.args.namespace.now c.args.at _ c.args.left _ _ c.stands-member.ensures (sure_here _ _ _ _ c.loop-spot.invariant.2 c.in-Some.is)) c.put_schema.ensures) c.in_err-sum.was))))

pub put_union-next_element-spot-requires : goal.put_union-next_element-spot-requires
put_union-next_element-spot-requires t c = c.requires.2

pub put_union-loop-spot-smaller : goal.put_union-loop-spot-smaller
put_union-loop-spot-smaller t c = visit_less _ c.in-Some.is c.next_element-spot.ensures

pub put_union-loop-spot-preserved : goal.put_union-loop-spot-preserved
put_union-loop-spot-preserved t c = (search rules, (λ m r d. c.loop-spot.invariant.1 m r (did_eq (each_next _ _ c.in-Some.is c.next_element-spot.ensures) (did_then _ _ (did_eq (member_is c.args.text.now c.args.namespace.now c.args.at _ c.args.left _ _ c.stands-member.ensures (sure_here _ _ _ _ c.loop-spot.invariant.2 c.in-Some.is)) c.put_schema.ensures) c.in_ok-sum.was d))), sure_next _ _ _ _ c.loop-spot.invariant.2 c.in-Some.is c.next_element-spot.ensures, c.put_schema.auto.table ∙ c.loop-spot.invariant.3)
