-- `json_scan::after_d` meets its contract. Assumes nothing.
use mathlib.Core.Path.{refl, sym, ap, ◌∙◌}
use Prim.Native.Nat.{◌+◌}
use native.Mathlib.Omega.{arith}
use Rattle.ground.proofs.Laws.{byte_at_lem}
use Rattle.std.proofs.lemmas.Result.{err_from_is_err_and}
use Rattle.json_scan.specs.Json.{inside, is_high, str, plain, h2d, h3, g3, g5}
use Rattle.json_scan.proofs.Readers.{lt_of_class, reads_is, reads_then, reads_bad}
use Rattle.json_scan.proofs.Strings.{below_8, no_high, high_on, last_two, high_two}
use Rattle.json_scan.proofs.escape.after_d.Goals as goal

pub overflow_add-at : goal.overflow_add-at
overflow_add-at c =
    let h = lt_of_class (inside 48 55) refl c.args.text.now c.args.at (ap (inside 48 55) (sym ((c.byte_at-b.ensures ∙ byte_at_lem _ _))) ∙ sym c.inside.ensures ∙ c.if-inside.true) in
    omega arith

pub returns-then-inside : goal.returns-then-inside
returns-then-inside c = λ w. below_8 c.args.text.now c.args.at w (ap (inside 48 55) (sym ((c.byte_at-b.ensures ∙ byte_at_lem _ _))) ∙ sym c.inside.ensures ∙ c.if-inside.true) _ (reads_is c.args.text.now (c.args.at + 1) (str w h3) (str w plain) _ _ c.two_hex.ensures (last_two c.args.text.now (c.args.at + 1) w))

pub returns-then-not-is_high : goal.returns-then-not-is_high
returns-then-not-is_high c = λ w. reads_is c.args.text.now c.args.at (str w h2d) (str w plain) _ _ c.bad.ensures (no_high c.args.text.now c.args.at w (ap (inside 48 55) (sym ((c.byte_at-b.ensures ∙ byte_at_lem _ _))) ∙ sym c.inside.ensures ∙ c.if-inside.false) (ap is_high (sym ((c.byte_at-b.ensures ∙ byte_at_lem _ _))) ∙ sym c.is_high.ensures ∙ c.if-not-is_high.true))

pub overflow_add-at-2 : goal.overflow_add-at-2
overflow_add-at-2 c =
    let h = lt_of_class is_high refl c.args.text.now c.args.at (ap is_high (sym ((c.byte_at-b.ensures ∙ byte_at_lem _ _))) ∙ sym c.is_high.ensures ∙ c.if-not-is_high.false) in
    omega arith

pub returns : goal.returns
returns c = λ w. high_on c.args.text.now c.args.at w (ap (inside 48 55) (sym ((c.byte_at-b.ensures ∙ byte_at_lem _ _))) ∙ sym c.inside.ensures ∙ c.if-inside.false) (ap is_high (sym ((c.byte_at-b.ensures ∙ byte_at_lem _ _))) ∙ sym c.is_high.ensures ∙ c.if-not-is_high.false) _ (reads_then c.args.text.now (c.args.at + 1) (str w g3) (str w g5) (str w plain) _ (reads_is c.args.text.now (c.args.at + 1) (str w g3) (str w g5) _ _ c.two_hex-2.ensures (high_two c.args.text.now (c.args.at + 1) w)) _ c.in_ok-e.was _ (c.low_half.ensures w))

pub returns-in_err-e : goal.returns-in_err-e
returns-in_err-e c =
    let p = err_from_is_err_and c.from_residual.result c.from_residual.ensures.1 in
    rw (p.1, p.2) (λ w. high_on c.args.text.now c.args.at w (ap (inside 48 55) (sym ((c.byte_at-b.ensures ∙ byte_at_lem _ _))) ∙ sym c.inside.ensures ∙ c.if-inside.false) (ap is_high (sym ((c.byte_at-b.ensures ∙ byte_at_lem _ _))) ∙ sym c.is_high.ensures ∙ c.if-not-is_high.false) _ (reads_bad c.args.text.now (c.args.at + 1) (str w g3) (str w g5) (str w plain) _ (reads_is c.args.text.now (c.args.at + 1) (str w g3) (str w g5) _ _ c.two_hex-2.ensures (high_two c.args.text.now (c.args.at + 1) w)) _ c.in_err-e.was))
