-- `json_scan::low_digits` meets its contract. Assumes nothing.
use mathlib.Core.Path.{refl, sym, ap, ◌∙◌}
use Prim.Native.Nat.{◌+◌}
use native.Mathlib.Omega.{arith}
use Rattle.ground.proofs.Laws.{byte_at_lem}
use Rattle.json_scan.specs.Json.{is_d, is_low, str, plain, g7, g8, h3}
use Rattle.json_scan.proofs.Readers.{lt_of_class, reads_is}
use Rattle.json_scan.proofs.Strings.{no_d, d_on, no_low, low_on, last_two}
use Rattle.json_scan.proofs.escape.low_digits.Goals as goal

pub returns-then-not-is_d : goal.returns-then-not-is_d
returns-then-not-is_d c = λ w. reads_is c.args.text.now c.args.at (str w g7) (str w plain) _ _ c.bad.ensures (no_d c.args.text.now c.args.at w (ap is_d (sym ((c.byte_at.ensures ∙ byte_at_lem _ _))) ∙ sym c.is_d.ensures ∙ c.if-not-is_d.true))

pub overflow_add-next : goal.overflow_add-next
overflow_add-next c =
    let h = lt_of_class is_d refl c.args.text.now c.args.at (ap is_d (sym ((c.byte_at.ensures ∙ byte_at_lem _ _))) ∙ sym c.is_d.ensures ∙ c.if-not-is_d.false) in
    omega arith

pub returns-then-not-is_low : goal.returns-then-not-is_low
returns-then-not-is_low c = λ w. d_on c.args.text.now c.args.at w (ap is_d (sym ((c.byte_at.ensures ∙ byte_at_lem _ _))) ∙ sym c.is_d.ensures ∙ c.if-not-is_d.false) _ (reads_is c.args.text.now (c.args.at + 1) (str w g8) (str w plain) _ _ c.bad-then-not-is_low.ensures (no_low c.args.text.now (c.args.at + 1) w (ap is_low (sym ((c.byte_at-2.ensures ∙ byte_at_lem _ _))) ∙ sym c.is_low.ensures ∙ c.if-not-is_low.true)))

pub overflow_add-next-2 : goal.overflow_add-next-2
overflow_add-next-2 c =
    let h = lt_of_class is_low refl c.args.text.now (c.args.at + 1) (ap is_low (sym ((c.byte_at-2.ensures ∙ byte_at_lem _ _))) ∙ sym c.is_low.ensures ∙ c.if-not-is_low.false) in
    omega arith

pub returns : goal.returns
returns c = λ w. d_on c.args.text.now c.args.at w (ap is_d (sym ((c.byte_at.ensures ∙ byte_at_lem _ _))) ∙ sym c.is_d.ensures ∙ c.if-not-is_d.false) _ (low_on c.args.text.now (c.args.at + 1) w (ap is_low (sym ((c.byte_at-2.ensures ∙ byte_at_lem _ _))) ∙ sym c.is_low.ensures ∙ c.if-not-is_low.false) _ (reads_is c.args.text.now (c.args.at + 1 + 1) (str w h3) (str w plain) _ _ c.two_hex.ensures (last_two c.args.text.now (c.args.at + 1 + 1) w)))
