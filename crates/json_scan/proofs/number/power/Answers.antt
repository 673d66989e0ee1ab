-- `json_scan::power` meets its contract. Assumes nothing.
use mathlib.Core.Path.{refl, sym, ap, ◌∙◌}
use native.Mathlib.Omega.{arith}
use Rattle.ground.proofs.Laws.{byte_at_lem}
use Rattle.json_scan.specs.Json.{is_sign}
use Rattle.json_scan.proofs.Readers.{lt_of_class}
use Rattle.json_scan.proofs.Numbers.{signed, unsigned}
use Rattle.json_scan.proofs.number.power.Goals as goal

pub overflow_add-at : goal.overflow_add-at
overflow_add-at c =
    let h = lt_of_class is_sign refl c.args.text.now c.args.at (ap is_sign (sym ((c.byte_at.ensures ∙ byte_at_lem _ _))) ∙ sym c.is_sign.ensures ∙ c.if-is_sign.true) in
    omega arith

pub returns-then-is_sign : goal.returns-then-is_sign
returns-then-is_sign c = signed c.args.text.now c.args.at _ (ap is_sign (sym ((c.byte_at.ensures ∙ byte_at_lem _ _))) ∙ sym c.is_sign.ensures ∙ c.if-is_sign.true) c.some_digits.ensures

pub returns-else-is_sign : goal.returns-else-is_sign
returns-else-is_sign c = unsigned c.args.text.now c.args.at _ (ap is_sign (sym ((c.byte_at.ensures ∙ byte_at_lem _ _))) ∙ sym c.is_sign.ensures ∙ c.if-is_sign.false) c.some_digits-else-is_sign.ensures
