-- `json_scan::exponent` meets its contract. Assumes nothing.
use mathlib.Core.Path.{refl, sym, ap, ◌∙◌}
use native.Mathlib.Omega.{arith}
use Rattle.ground.proofs.Laws.{byte_at_lem}
use Rattle.json_scan.specs.Json.{is_e}
use Rattle.json_scan.proofs.Readers.{lt_of_class}
use Rattle.json_scan.proofs.Numbers.{powers, unpowered}
use Rattle.json_scan.proofs.number.exponent.Goals as goal

pub overflow_add-at : goal.overflow_add-at
overflow_add-at c =
    let h = lt_of_class is_e refl c.args.text.now c.args.at (ap is_e (sym ((c.byte_at.ensures ∙ byte_at_lem _ _))) ∙ sym c.is_e.ensures ∙ c.if-is_e.true) in
    omega arith

pub returns-then-is_e : goal.returns-then-is_e
returns-then-is_e c = powers c.args.text.now c.args.at _ (ap is_e (sym ((c.byte_at.ensures ∙ byte_at_lem _ _))) ∙ sym c.is_e.ensures ∙ c.if-is_e.true) c.power.ensures

pub returns-else-is_e : goal.returns-else-is_e
returns-else-is_e c = unpowered c.args.text.now c.args.at (ap is_e (sym ((c.byte_at.ensures ∙ byte_at_lem _ _))) ∙ sym c.is_e.ensures ∙ c.if-is_e.false)
