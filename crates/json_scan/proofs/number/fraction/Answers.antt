-- `json_scan::fraction` meets its contract. Assumes nothing.
use mathlib.Core.Path.{sym, ◌∙◌}
use native.Mathlib.Omega.{arith}
use Rattle.ground.proofs.Laws.{byte_at_lem}
use Rattle.std.proofs.lemmas.Result.{err_from_is_err_and}
use Rattle.json_scan.proofs.Items.{lt_of_byte}
use Rattle.json_scan.proofs.Numbers.{pointed_on, pointed_bad, unpointed}
use Rattle.json_scan.proofs.number.fraction.Goals as goal

pub overflow_add-at : goal.overflow_add-at
overflow_add-at c =
    let h = lt_of_byte c.args.text.now c.args.at 46 (sym ((c.byte_at.ensures ∙ byte_at_lem _ _)) ∙ c.if-byte_at-eq46.true) (omega arith) in
    omega arith

pub returns-in_ok-e : goal.returns-in_ok-e
returns-in_ok-e c =
    let b = sym ((c.byte_at.ensures ∙ byte_at_lem _ _)) ∙ c.if-byte_at-eq46.true in
    pointed_on c.args.text.now c.args.at b (lt_of_byte c.args.text.now c.args.at 46 b (omega arith)) _ c.some_digits.ensures _ c.in_ok-e.was _ c.exponent.ensures

pub returns-in_err-e : goal.returns-in_err-e
returns-in_err-e c =
    let p = err_from_is_err_and c.from_residual.result c.from_residual.ensures.1 in
    rw (p.1, p.2) (let b = sym ((c.byte_at.ensures ∙ byte_at_lem _ _)) ∙ c.if-byte_at-eq46.true in
    pointed_bad c.args.text.now c.args.at b (lt_of_byte c.args.text.now c.args.at 46 b (omega arith)) _ c.some_digits.ensures _ c.in_err-e.was)

pub returns-else-byte_at-eq46 : goal.returns-else-byte_at-eq46
returns-else-byte_at-eq46 c = unpointed c.args.text.now c.args.at _ (λ b. c.if-byte_at-eq46.false ((c.byte_at.ensures ∙ byte_at_lem _ _) ∙ b)) c.exponent-else-byte_at-eq46.ensures
