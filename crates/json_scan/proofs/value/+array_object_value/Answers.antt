-- The proof of the cycle of calls {array, object, value}. The measure is twice the brackets that may be opened, and one more for `array` and `object`.
-- Assumes nothing.
use mathlib.Core.Path.{refl, sym, ◌∙◌}
use native.Mathlib.Omega.{arith}
use Rattle.ground.proofs.Laws.{byte_at_lem}
use Rattle.json_scan.specs.Json.{square, brace, first, key0}
use Rattle.json_scan.proofs.Items.{lt_of_byte, too_deep, opened, simply, empty, entered}
use Rattle.json_scan.proofs.value.+array_object_value.Goals as goal

pub array-overflow_add-result : goal.array-overflow_add-result
array-overflow_add-result t c =
    let h = lt_of_byte c.args.text.now c.skip-start.result 93 (sym ((c.byte_at.ensures ∙ byte_at_lem _ _)) ∙ c.if-byte_at-eq93.true) (omega arith) in
    omega arith

pub array-returns-then-byte_at-eq93 : goal.array-returns-then-byte_at-eq93
array-returns-then-byte_at-eq93 t c = empty c.args.text.now c.args.from c.skip-start.result c.args.left square c.skip-start.ensures (sym ((c.byte_at.ensures ∙ byte_at_lem _ _)) ∙ c.if-byte_at-eq93.true)

pub array-loop-e-init : goal.array-loop-e-init
array-loop-e-init t c = entered c.args.text.now c.args.from c.skip-start.result c.args.left square c.skip-start.ensures (λ e. c.if-byte_at-eq93.false ((c.byte_at.ensures ∙ byte_at_lem _ _) ∙ e))

pub object-overflow_add-result : goal.object-overflow_add-result
object-overflow_add-result t c =
    let h = lt_of_byte c.args.text.now c.skip-start.result 125 (sym ((c.byte_at.ensures ∙ byte_at_lem _ _)) ∙ c.if-byte_at-eq125.true) (omega arith) in
    omega arith

pub object-returns-then-byte_at-eq125 : goal.object-returns-then-byte_at-eq125
object-returns-then-byte_at-eq125 t c = empty c.args.text.now c.args.from c.skip-start.result c.args.left brace c.skip-start.ensures (sym ((c.byte_at.ensures ∙ byte_at_lem _ _)) ∙ c.if-byte_at-eq125.true)

pub object-loop-v-init : goal.object-loop-v-init
object-loop-v-init t c = entered c.args.text.now c.args.from c.skip-start.result c.args.left brace c.skip-start.ensures (λ e. c.if-byte_at-eq125.false ((c.byte_at.ensures ∙ byte_at_lem _ _) ∙ e))

pub value-returns-then-left-eq0 : goal.value-returns-then-left-eq0
value-returns-then-left-eq0 t c = too_deep c.args.text.now c.args.from c.skip-at.result c.args.left c.skip-at.ensures 91 square first (sym ((c.byte_at-b.ensures ∙ byte_at_lem _ _)) ∙ c.if-b-eq91.true) (omega arith) (λ k. refl) c.if-left-eq0.true

pub value-overflow_add-at : goal.value-overflow_add-at
value-overflow_add-at t c =
    let h = lt_of_byte c.args.text.now c.skip-at.result 91 (sym ((c.byte_at-b.ensures ∙ byte_at_lem _ _)) ∙ c.if-b-eq91.true) (omega arith) in
    omega arith

pub value-returns-then-left-eq0-2 : goal.value-returns-then-left-eq0-2
value-returns-then-left-eq0-2 t c = too_deep c.args.text.now c.args.from c.skip-at.result c.args.left c.skip-at.ensures 123 brace key0 (sym ((c.byte_at-b.ensures ∙ byte_at_lem _ _)) ∙ c.if-b-eq123.true) (omega arith) (λ k. refl) c.if-left-eq0-2.true

pub value-overflow_add-at-then-b-eq123 : goal.value-overflow_add-at-then-b-eq123
value-overflow_add-at-then-b-eq123 t c =
    let h = lt_of_byte c.args.text.now c.skip-at.result 123 (sym ((c.byte_at-b.ensures ∙ byte_at_lem _ _)) ∙ c.if-b-eq123.true) (omega arith) in
    omega arith

pub value-scalar-requires : goal.value-scalar-requires
value-scalar-requires t c = (c.byte_at-b.ensures ∙ byte_at_lem _ _)

pub value-returns-else-left-eq0 : goal.value-returns-else-left-eq0
value-returns-else-left-eq0 t c = opened c.args.text.now c.args.from c.skip-at.result c.args.left c.skip-at.ensures 91 square first (sym ((c.byte_at-b.ensures ∙ byte_at_lem _ _)) ∙ c.if-b-eq91.true) (omega arith) (λ k. refl) c.array.result c.if-left-eq0.false c.array.ensures

pub value-returns-else-left-eq0-2 : goal.value-returns-else-left-eq0-2
value-returns-else-left-eq0-2 t c = opened c.args.text.now c.args.from c.skip-at.result c.args.left c.skip-at.ensures 123 brace key0 (sym ((c.byte_at-b.ensures ∙ byte_at_lem _ _)) ∙ c.if-b-eq123.true) (omega arith) (λ k. refl) c.object.result c.if-left-eq0-2.false c.object.ensures

pub value-returns-else-b-eq123 : goal.value-returns-else-b-eq123
value-returns-else-b-eq123 t c = simply c.args.text.now c.args.from c.skip-at.result c.args.left c.skip-at.ensures c.byte_at-b.result c.scalar.result ((c.byte_at-b.ensures ∙ byte_at_lem _ _)) c.if-b-eq91.false c.if-b-eq123.false c.scalar.ensures
