-- The walk of `fits::walk` meets its contracts: each way out is one law, each loop's answer for what is left is the answer, and
-- tables that are true stay true.
-- Assumes nothing.
use mathlib.Core.Path.{refl, sym, ap, ◌∙◌}
use native.Mathlib.Omega.{arith}
use Rattle.fits.specs.Steps.{is_nested}
use Rattle.fits.proofs.TableLaws.{true_no, true_yes, noted_no, noted_yes}
use Rattle.fits.proofs.RowLaws.{some_end, some_found, some_on, every_end, every_bad, every_on}
use Rattle.fits.proofs.FitLaws.{then_true, then_false, each_start, each_done, each_bad, each_on, each_less, visit_start, visit_end, visit_bad, visit_on, member_none, member_value, plain_none, any_none, field_other, field_value, field_default, nested_array, nested_map, nested_record, one_reference, one_self, any_union, any_one, some_start, every_start, fits_none, fits_more}
use Rattle.view.proofs.Laws.{pass_less}
use Rattle.fits.proofs.walk.+any_array_field_fits_at_map_nested_one_plain_record_of_some_one.Goals as goal

pub any-returns-then-n-row : goal.any-returns-then-n-row
any-returns-then-n-row t c = (any_none _ _ _ _ _ _ c.if-n-row.true, c.requires.3, c.requires.4)

pub any-some_one-requires : goal.any-some_one-requires
any-some_one-requires t c = (omega (arith, c.decreases), (c.requires.0, c.requires.1, c.requires.2, c.requires.3, c.requires.4, omega (arith, c.requires.5), c.if-n-row.false))

pub any-returns-then-is_of : goal.any-returns-then-is_of
any-returns-then-is_of t c = (any_union _ _ _ _ _ _ c.if-n-row.false c.is_of.ensures c.if-is_of.true c.some_one.ensures.0, c.some_one.ensures.1, c.some_one.ensures.2)

pub any-one-requires : goal.any-one-requires
any-one-requires t c = (omega (arith, c.decreases), (c.requires.0, c.requires.1, c.requires.2, c.requires.3, c.requires.4, omega (arith, c.requires.5), c.if-n-row.false))

pub any-returns : goal.any-returns
any-returns t c = (any_one _ _ _ _ _ _ c.if-n-row.false c.is_of.ensures c.if-is_of.false c.one.ensures.0, c.one.ensures.1, c.one.ensures.2)

pub array-returns-then-not-is_array : goal.array-returns-then-not-is_array
array-returns-then-not-is_array t c = (then_false c.is_array.ensures c.if-not-is_array.true _, c.requires.3, c.requires.4)

pub array-loop-spot-init : goal.array-loop-spot-init
array-loop-spot-init t c = (refl, refl, each_start _ _ _ c.first_element-spot.ensures, c.requires.3, c.requires.4)

pub array-returns : goal.array-returns
array-returns t c = (then_true c.is_array.ensures c.if-not-is_array.false (each_done _ _ c.loop-spot.invariant.2 c.in_default.is), c.loop-spot.invariant.3, c.loop-spot.invariant.4)

pub array-fits_at-requires : goal.array-fits_at-requires
array-fits_at-requires t c = (omega (arith, c.decreases), (c.requires.0, c.requires.1, c.requires.2, c.loop-spot.invariant.3, c.loop-spot.invariant.4, omega (arith, c.requires.5)))

pub array-shape_of-verdicts-then-not-fits_at : goal.array-shape_of-verdicts-then-not-fits_at
array-shape_of-verdicts-then-not-fits_at t c = c.fits_at.auto.verdicts ∙ c.loop-spot.invariant.0

pub array-shape_of-found-then-not-fits_at : goal.array-shape_of-found-then-not-fits_at
array-shape_of-found-then-not-fits_at t c = c.fits_at.auto.found ∙ c.loop-spot.invariant.1

pub array-returns-then-not-fits_at : goal.array-returns-then-not-fits_at
array-returns-then-not-fits_at t c = (then_true c.is_array.ensures c.if-not-is_array.false (each_bad _ _ c.loop-spot.invariant.2 c.in-Some.is c.fits_at.ensures.0 c.if-not-fits_at.true), c.fits_at.ensures.1, c.fits_at.ensures.2)

pub array-loop-spot-smaller : goal.array-loop-spot-smaller
array-loop-spot-smaller t c = each_less _ c.in-Some.is c.next_element-spot.ensures

pub array-loop-spot-preserved : goal.array-loop-spot-preserved
array-loop-spot-preserved t c = (c.fits_at.auto.verdicts ∙ c.loop-spot.invariant.0, c.fits_at.auto.found ∙ c.loop-spot.invariant.1, each_on _ _ c.loop-spot.invariant.2 c.in-Some.is c.fits_at.ensures.0 c.if-not-fits_at.false c.next_element-spot.ensures, c.fits_at.ensures.1, c.fits_at.ensures.2)

pub field-returns-then-not-is_of : goal.field-returns-then-not-is_of
field-returns-then-not-is_of t c = (field_other _ _ _ _ _ _ c.requires.6 c.is_of.ensures c.if-not-is_of.true, c.requires.3, c.requires.4)

pub field-returns-in_default : goal.field-returns-in_default
field-returns-in_default t c = (field_default _ _ _ _ _ _ c.requires.6 c.is_of.ensures c.if-not-is_of.false c.string_of.ensures.0 c.under_word.ensures c.in_default.is c.has_default.ensures, c.requires.3, c.requires.4)

pub field-fits_at-requires : goal.field-fits_at-requires
field-fits_at-requires t c = (omega (arith, c.decreases), (c.requires.0, c.requires.1, c.requires.2, c.requires.3, c.requires.4, omega (arith, c.requires.5)))

pub field-returns : goal.field-returns
field-returns t c = (field_value _ _ _ _ _ _ c.requires.6 c.is_of.ensures c.if-not-is_of.false c.string_of.ensures.0 c.under_word.ensures c.in-Some.is _ c.type_row-own.ensures c.fits_at.ensures.0, c.fits_at.ensures.1, c.fits_at.ensures.2)

pub fits_at-returns-then-left-eq0 : goal.fits_at-returns-then-left-eq0
fits_at-returns-then-left-eq0 t c = (fits_none _ _ _ _ _ c.if-left-eq0.true, c.requires.3, c.requires.4)

pub fits_at-any-requires : goal.fits_at-any-requires
fits_at-any-requires t c = (omega (arith, c.decreases, c.if-left-eq0.false), (c.requires.0, c.requires.1, c.requires.2, c.requires.3, c.requires.4, omega (arith, c.requires.5)))

pub fits_at-returns : goal.fits_at-returns
fits_at-returns t c = (fits_more _ _ _ _ _ c.if-left-eq0.false c.any.ensures.0, c.any.ensures.1, c.any.ensures.2)

pub map-returns-then-not-is_object : goal.map-returns-then-not-is_object
map-returns-then-not-is_object t c = (then_false c.is_object.ensures c.if-not-is_object.true _, c.requires.3, c.requires.4)

pub map-loop-entry-init : goal.map-loop-entry-init
map-loop-entry-init t c = (refl, refl, visit_start _ _ _ c.first_member-entry.ensures, c.requires.3, c.requires.4)

pub map-returns : goal.map-returns
map-returns t c = (then_true c.is_object.ensures c.if-not-is_object.false (visit_end _ _ c.loop-entry.invariant.2 c.in_default.is), c.loop-entry.invariant.3, c.loop-entry.invariant.4)

pub map-returns-in_default-under_key : goal.map-returns-in_default-under_key
map-returns-in_default-under_key t c = (then_true c.is_object.ensures c.if-not-is_object.false (visit_bad _ _ c.loop-entry.invariant.2 c.in-Some.is (member_none _ _ _ _ _ c.under_key.ensures c.in_default-under_key.is) refl), c.loop-entry.invariant.3, c.loop-entry.invariant.4)

pub map-fits_at-requires : goal.map-fits_at-requires
map-fits_at-requires t c = (omega (arith, c.decreases), (c.requires.0, c.requires.1, c.requires.2, c.loop-entry.invariant.3, c.loop-entry.invariant.4, omega (arith, c.requires.5)))

pub map-shape_of-verdicts-then-not-fits_at : goal.map-shape_of-verdicts-then-not-fits_at
map-shape_of-verdicts-then-not-fits_at t c = c.fits_at.auto.verdicts ∙ c.loop-entry.invariant.0

pub map-shape_of-found-then-not-fits_at : goal.map-shape_of-found-then-not-fits_at
map-shape_of-found-then-not-fits_at t c = c.fits_at.auto.found ∙ c.loop-entry.invariant.1

pub map-returns-then-not-fits_at : goal.map-returns-then-not-fits_at
map-returns-then-not-fits_at t c = (then_true c.is_object.ensures c.if-not-is_object.false (visit_bad _ _ c.loop-entry.invariant.2 c.in-Some.is (member_value _ _ _ _ _ c.under_key.ensures c.in-Some-under_key.is c.fits_at.ensures.0) c.if-not-fits_at.true), c.fits_at.ensures.1, c.fits_at.ensures.2)

pub map-next_member-entry-requires : goal.map-next_member-entry-requires
map-next_member-entry-requires t c = c.requires.2

pub map-loop-entry-smaller : goal.map-loop-entry-smaller
map-loop-entry-smaller t c = pass_less _ c.loop-entry.invariant.2.true_entry c.in-Some.is c.next_member-entry.ensures

pub map-loop-entry-preserved : goal.map-loop-entry-preserved
map-loop-entry-preserved t c = (c.fits_at.auto.verdicts ∙ c.loop-entry.invariant.0, c.fits_at.auto.found ∙ c.loop-entry.invariant.1, visit_on _ _ c.loop-entry.invariant.2 c.in-Some.is (member_value _ _ _ _ _ c.under_key.ensures c.in-Some-under_key.is c.fits_at.ensures.0) c.if-not-fits_at.false c.next_member-entry.ensures, c.fits_at.ensures.1, c.fits_at.ensures.2)

pub nested-array-requires : goal.nested-array-requires
nested-array-requires t c = (omega (arith, c.decreases), (c.requires.0, c.requires.1, c.requires.2, c.requires.3, c.requires.4, omega (arith, c.requires.5)))

pub nested-returns-then-is_of : goal.nested-returns-then-is_of
nested-returns-then-is_of t c = (nested_array _ _ _ _ _ _ c.requires.6 c.is_of.ensures c.if-is_of.true c.array.ensures.0, c.array.ensures.1, c.array.ensures.2)

pub nested-map-requires : goal.nested-map-requires
nested-map-requires t c = (omega (arith, c.decreases), (c.requires.0, c.requires.1, c.requires.2, c.requires.3, c.requires.4, omega (arith, c.requires.5)))

pub nested-returns-then-is_of-2 : goal.nested-returns-then-is_of-2
nested-returns-then-is_of-2 t c = (nested_map _ _ _ _ _ _ c.requires.6 c.is_of.ensures c.if-is_of.false c.is_of-2.ensures c.if-is_of-2.true c.map.ensures.0, c.map.ensures.1, c.map.ensures.2)

pub nested-record_of-requires : goal.nested-record_of-requires
nested-record_of-requires t c = (omega (arith, c.decreases), (c.requires.0, c.requires.1, c.requires.2, c.requires.3, c.requires.4, omega (arith, c.requires.5), c.requires.6))

pub nested-returns : goal.nested-returns
nested-returns t c = (nested_record _ _ _ _ _ _ c.requires.6 c.is_of.ensures c.if-is_of.false c.is_of-2.ensures c.if-is_of-2.false c.requires.7 c.record_of.ensures.0, c.record_of.ensures.1, c.record_of.ensures.2)

pub one-plain-requires : goal.one-plain-requires
one-plain-requires t c = (omega (arith, c.decreases), (c.requires.0, c.requires.1, c.requires.2, c.requires.3, c.definition-defined.ensures.1, omega (arith, c.requires.5)))

pub one-returns-then-is_of : goal.one-returns-then-is_of
one-returns-then-is_of t c = (one_reference _ _ _ _ _ _ c.requires.6 c.is_of.ensures c.if-is_of.true _ c.definition-defined.ensures.0 c.plain.ensures.0, c.plain.ensures.1, c.plain.ensures.2)

pub one-plain-requires-2 : goal.one-plain-requires-2
one-plain-requires-2 t c = (omega (arith, c.decreases), (c.requires.0, c.requires.1, c.requires.2, c.requires.3, c.requires.4, omega (arith, c.requires.5)))

pub one-returns : goal.one-returns
one-returns t c = (one_self _ _ _ _ _ _ c.requires.6 c.is_of.ensures c.if-is_of.false c.plain-2.ensures.0, c.plain-2.ensures.1, c.plain-2.ensures.2)

pub plain-returns-then-n-row : goal.plain-returns-then-n-row
plain-returns-then-n-row t c = (plain_none _ _ _ _ _ _ c.if-n-row.true, c.requires.3, c.requires.4)

pub plain-returns-then-not-is_nested : goal.plain-returns-then-not-is_nested
plain-returns-then-not-is_nested t c = (c.leaf.ensures _ (sym (c.is_nested.ensures ∙ ap is_nested c.kind_at.ensures) ∙ c.if-not-is_nested.true), c.requires.3, c.requires.4)

pub plain-returns-then-held-no : goal.plain-returns-then-held-no
plain-returns-then-held-no t c = (true_no _ _ _ c.requires.3 _ _ _ c.asked-held.ensures c.if-held-no.true, c.requires.3, c.requires.4)

pub plain-returns-then-held-yes : goal.plain-returns-then-held-yes
plain-returns-then-held-yes t c = (true_yes _ _ _ c.requires.3 _ _ _ c.asked-held.ensures c.if-held-yes.true, c.requires.3, c.requires.4)

pub plain-nested-requires : goal.plain-nested-requires
plain-nested-requires t c = (omega (arith, c.decreases), (c.requires.0, c.requires.1, c.requires.2, c.requires.3, c.requires.4, omega (arith, c.requires.5), c.if-n-row.false, sym (c.is_nested.ensures ∙ ap is_nested c.kind_at.ensures) ∙ c.if-not-is_nested.false))

pub plain-note-requires : goal.plain-note-requires
plain-note-requires t c = (c.requires.1, omega (arith, c.requires.5))

pub plain-returns-then-nested : goal.plain-returns-then-nested
plain-returns-then-nested t c = (sym c.if-nested.true ∙ c.nested.ensures.0, noted_yes _ _ _ c.nested.ensures.1 _ _ _ c.nested.ensures.0 c.if-nested.true c.note.ensures, c.nested.ensures.2)

pub plain-note-requires-2 : goal.plain-note-requires-2
plain-note-requires-2 t c = (c.requires.1, omega (arith, c.requires.5))

pub plain-returns : goal.plain-returns
plain-returns t c = (sym c.if-nested.false ∙ c.nested.ensures.0, noted_no _ _ _ c.nested.ensures.1 _ _ _ c.nested.ensures.0 c.if-nested.false c.note-2.ensures, c.nested.ensures.2)

pub record_of-returns-then-not-is_object : goal.record_of-returns-then-not-is_object
record_of-returns-then-not-is_object t c = (then_false c.is_object.ensures c.if-not-is_object.true _, c.requires.3, c.requires.4)

pub record_of-loop-i-init : goal.record_of-loop-i-init
record_of-loop-i-init t c = (refl, refl, c.next_part-i.ensures.1, every_start _ _ _ _ _ c.depth_at-depth.ensures.0 c.next_part-i.ensures.2, c.requires.3, c.requires.4)

pub record_of-field-requires : goal.record_of-field-requires
record_of-field-requires t c = (omega (arith, c.decreases), (c.requires.0, c.requires.1, c.requires.2, c.loop-i.invariant.4, c.loop-i.invariant.5, omega (arith, c.requires.5), c.loop-i-test.true))

pub record_of-shape_of-verdicts-then-not-field : goal.record_of-shape_of-verdicts-then-not-field
record_of-shape_of-verdicts-then-not-field t c = c.field.auto.verdicts ∙ c.loop-i.invariant.0

pub record_of-shape_of-found-then-not-field : goal.record_of-shape_of-found-then-not-field
record_of-shape_of-found-then-not-field t c = c.field.auto.found ∙ c.loop-i.invariant.1

pub record_of-returns-then-not-field : goal.record_of-returns-then-not-field
record_of-returns-then-not-field t c = (then_true c.is_object.ensures c.if-not-is_object.false (every_bad _ _ _ _ _ c.loop-i.invariant.3 c.loop-i-test.true c.field.ensures.0 c.if-not-field.true), c.field.ensures.1, c.field.ensures.2)

pub record_of-loop-i-preserved : goal.record_of-loop-i-preserved
record_of-loop-i-preserved t c = (c.field.auto.verdicts ∙ c.loop-i.invariant.0, c.field.auto.found ∙ c.loop-i.invariant.1, c.next_part-i-in-loop-i.ensures.1, every_on _ _ _ _ _ c.loop-i.invariant.3 c.loop-i-test.true c.field.ensures.0 c.if-not-field.false _ c.next_part-i-in-loop-i.ensures.2, c.field.ensures.1, c.field.ensures.2)

pub record_of-returns : goal.record_of-returns
record_of-returns t c = (then_true c.is_object.ensures c.if-not-is_object.false (every_end _ _ _ _ _ c.loop-i.invariant.3 c.loop-i-test.false), c.loop-i.invariant.4, c.loop-i.invariant.5)

pub some_one-loop-m-init : goal.some_one-loop-m-init
some_one-loop-m-init t c = (refl, refl, c.next_part-m.ensures.1, some_start _ _ _ _ _ c.depth_at-depth.ensures.0 c.next_part-m.ensures.2, c.requires.3, c.requires.4)

pub some_one-one-requires : goal.some_one-one-requires
some_one-one-requires t c = (omega (arith, c.decreases), (c.requires.0, c.requires.1, c.requires.2, c.loop-m.invariant.4, c.loop-m.invariant.5, omega (arith, c.requires.5), c.loop-m-test.true))

pub some_one-shape_of-verdicts-then-one : goal.some_one-shape_of-verdicts-then-one
some_one-shape_of-verdicts-then-one t c = c.one.auto.verdicts ∙ c.loop-m.invariant.0

pub some_one-shape_of-found-then-one : goal.some_one-shape_of-found-then-one
some_one-shape_of-found-then-one t c = c.one.auto.found ∙ c.loop-m.invariant.1

pub some_one-returns-then-one : goal.some_one-returns-then-one
some_one-returns-then-one t c = (some_found _ _ _ _ _ c.loop-m.invariant.3 c.loop-m-test.true c.one.ensures.0 c.if-one.true, c.one.ensures.1, c.one.ensures.2)

pub some_one-loop-m-preserved : goal.some_one-loop-m-preserved
some_one-loop-m-preserved t c = (c.one.auto.verdicts ∙ c.loop-m.invariant.0, c.one.auto.found ∙ c.loop-m.invariant.1, c.next_part-m-in-loop-m.ensures.1, some_on _ _ _ _ _ c.loop-m.invariant.3 c.loop-m-test.true c.one.ensures.0 c.if-one.false _ c.next_part-m-in-loop-m.ensures.2, c.one.ensures.1, c.one.ensures.2)

pub some_one-returns : goal.some_one-returns
some_one-returns t c = (some_end _ _ _ _ _ c.loop-m.invariant.3 c.loop-m-test.false, c.loop-m.invariant.4, c.loop-m.invariant.5)
