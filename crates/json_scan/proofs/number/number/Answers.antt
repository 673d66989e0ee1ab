-- `json_scan::number` meets its contract. Assumes nothing.
use mathlib.Core.Path.{sym, ◌∙◌}
use native.Mathlib.Omega.{arith}
use Rattle.ground.proofs.Laws.{byte_at_lem}
use Rattle.std.proofs.lemmas.Result.{err_from_is_err_and}
use Rattle.json_scan.proofs.Items.{lt_of_byte}
use Rattle.json_scan.proofs.Numbers.{from_nought, from_digits, no_digits}
use Rattle.json_scan.proofs.number.number.Goals as goal

pub overflow_add-at : goal.overflow_add-at
overflow_add-at c =
    let h = lt_of_byte c.args.text.now c.args.at 48 (sym ((c.byte_at.ensures ∙ byte_at_lem _ _)) ∙ c.if-byte_at-eq48.true) (omega arith) in
    omega arith

pub returns-then-byte_at-eq48 : goal.returns-then-byte_at-eq48
returns-then-byte_at-eq48 c =
    let b = sym ((c.byte_at.ensures ∙ byte_at_lem _ _)) ∙ c.if-byte_at-eq48.true in
    from_nought c.args.text.now c.args.at b (lt_of_byte c.args.text.now c.args.at 48 b (omega arith)) _ c.fraction.ensures

pub returns-in_ok-e : goal.returns-in_ok-e
returns-in_ok-e c = from_digits c.args.text.now c.args.at (λ b. c.if-byte_at-eq48.false ((c.byte_at.ensures ∙ byte_at_lem _ _) ∙ b)) _ c.some_digits.ensures _ c.in_ok-e.was _ c.fraction-else-byte_at-eq48.ensures

pub returns-in_err-e : goal.returns-in_err-e
returns-in_err-e c =
    let p = err_from_is_err_and c.from_residual.result c.from_residual.ensures.1 in
    rw (p.1, p.2) (no_digits c.args.text.now c.args.at (λ b. c.if-byte_at-eq48.false ((c.byte_at.ensures ∙ byte_at_lem _ _) ∙ b)) _ c.some_digits.ensures _ c.in_err-e.was)
