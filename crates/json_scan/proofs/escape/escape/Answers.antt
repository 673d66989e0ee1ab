-- `json_scan::escape` meets its contract. Assumes nothing.
use mathlib.Core.Path.{refl, sym, ap, ◌∙◌}
use native.Mathlib.Omega.{arith}
use Rattle.ground.proofs.Laws.{byte_at_lem}
use Rattle.json_scan.specs.Json.{is_short, str, plain, esc}
use Rattle.json_scan.proofs.Readers.{lt_of_class, reads_is}
use Rattle.json_scan.proofs.Items.{lt_of_byte}
use Rattle.json_scan.proofs.Strings.{short, esc_u, esc_bad}
use Rattle.json_scan.proofs.escape.escape.Goals as goal

pub overflow_add-result : goal.overflow_add-result
overflow_add-result c =
    let h = lt_of_class is_short refl c.args.text.now c.args.at (ap is_short (sym ((c.byte_at-b.ensures ∙ byte_at_lem _ _))) ∙ sym c.is_short.ensures ∙ c.if-is_short.true) in
    omega arith

pub overflow_add-at : goal.overflow_add-at
overflow_add-at c =
    let h = lt_of_byte c.args.text.now c.args.at 117 (sym ((c.byte_at-b.ensures ∙ byte_at_lem _ _)) ∙ c.if-b-eq117.true) (omega arith) in
    omega arith

pub returns-then-is_short : goal.returns-then-is_short
returns-then-is_short c = λ w. short c.args.text.now c.args.at w (ap is_short (sym ((c.byte_at-b.ensures ∙ byte_at_lem _ _))) ∙ sym c.is_short.ensures ∙ c.if-is_short.true)

pub returns-then-b-eq117 : goal.returns-then-b-eq117
returns-then-b-eq117 c =
    let b = sym ((c.byte_at-b.ensures ∙ byte_at_lem _ _)) ∙ c.if-b-eq117.true in
    λ w. esc_u c.args.text.now c.args.at w b (lt_of_byte c.args.text.now c.args.at 117 b (omega arith)) _ (c.four_hex.ensures w)

pub returns-else-b-eq117 : goal.returns-else-b-eq117
returns-else-b-eq117 c = λ w. reads_is c.args.text.now c.args.at (str w esc) (str w plain) _ _ c.bad.ensures (esc_bad c.args.text.now c.args.at w (ap is_short (sym ((c.byte_at-b.ensures ∙ byte_at_lem _ _))) ∙ sym c.is_short.ensures ∙ c.if-is_short.false) (λ b. c.if-b-eq117.false ((c.byte_at-b.ensures ∙ byte_at_lem _ _) ∙ b)))
