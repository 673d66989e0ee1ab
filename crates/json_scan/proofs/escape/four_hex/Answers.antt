-- `json_scan::four_hex` meets its contract. Assumes nothing.
use mathlib.Core.Path.{refl, sym, ap, ◌∙◌}
use native.Mathlib.Omega.{arith}
use Rattle.ground.proofs.Laws.{byte_at_lem}
use Rattle.std.proofs.lemmas.Result.{err_from_is_err_and}
use Rattle.json_scan.specs.Json.{is_d, str, plain, h1, h3}
use Rattle.json_scan.proofs.Readers.{lt_of_class, reads_is, reads_then, reads_bad}
use Rattle.json_scan.proofs.Strings.{h1_d, first_two, last_two}
use Rattle.json_scan.proofs.escape.four_hex.Goals as goal

pub overflow_add-at : goal.overflow_add-at
overflow_add-at c =
    let h = lt_of_class is_d refl c.args.text.now c.args.at (ap is_d (sym ((c.byte_at.ensures ∙ byte_at_lem _ _))) ∙ sym c.is_d.ensures ∙ c.if-is_d.true) in
    omega arith

pub returns-then-is_d : goal.returns-then-is_d
returns-then-is_d c = λ w. h1_d c.args.text.now c.args.at w (ap is_d (sym ((c.byte_at.ensures ∙ byte_at_lem _ _))) ∙ sym c.is_d.ensures ∙ c.if-is_d.true) _ (c.after_d.ensures w)

pub returns : goal.returns
returns c = λ w. reads_then c.args.text.now c.args.at (str w h1) (str w h3) (str w plain) _ (reads_is c.args.text.now c.args.at (str w h1) (str w h3) _ _ c.two_hex.ensures (first_two c.args.text.now c.args.at w (ap is_d (sym ((c.byte_at.ensures ∙ byte_at_lem _ _))) ∙ sym c.is_d.ensures ∙ c.if-is_d.false))) _ c.in_ok-e.was _ (reads_is c.args.text.now c.in_ok-e.e (str w h3) (str w plain) _ _ c.two_hex-2.ensures (last_two c.args.text.now c.in_ok-e.e w))

pub returns-in_err-e : goal.returns-in_err-e
returns-in_err-e c =
    let p = err_from_is_err_and c.from_residual.result c.from_residual.ensures.1 in
    rw (p.1, p.2) (λ w. reads_bad c.args.text.now c.args.at (str w h1) (str w h3) (str w plain) _ (reads_is c.args.text.now c.args.at (str w h1) (str w h3) _ _ c.two_hex.ensures (first_two c.args.text.now c.args.at w (ap is_d (sym ((c.byte_at.ensures ∙ byte_at_lem _ _))) ∙ sym c.is_d.ensures ∙ c.if-is_d.false))) _ c.in_err-e.was)
