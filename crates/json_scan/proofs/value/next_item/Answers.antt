-- `json_scan::next_item` meets its contract. Assumes nothing.
use mathlib.Core.Path.{sym, ◌∙◌}
use native.Mathlib.Omega.{arith}
use Rattle.ground.proofs.Laws.{byte_at_lem}
use Rattle.json_scan.proofs.Items.{shut_here, more_here, none_here, lt_of_byte}
use Rattle.json_scan.proofs.value.next_item.Goals as goal

pub overflow_add-result : goal.overflow_add-result
overflow_add-result c =
    let h = lt_of_byte c.args.text.now c.skip-at.result c.args.close (sym ((c.byte_at-b.ensures ∙ byte_at_lem _ _)) ∙ c.if-b-close.true) c.requires in
    omega arith

pub overflow_add-result-then-b-eq44 : goal.overflow_add-result-then-b-eq44
overflow_add-result-then-b-eq44 c =
    let h = lt_of_byte c.args.text.now c.skip-at.result 44 (sym ((c.byte_at-b.ensures ∙ byte_at_lem _ _)) ∙ c.if-b-eq44.true) (omega arith) in
    omega arith

pub returns-then-b-close : goal.returns-then-b-close
returns-then-b-close c = shut_here c.args.text.now c.args.from c.skip-at.result c.args.close c.skip-at.ensures (sym ((c.byte_at-b.ensures ∙ byte_at_lem _ _)) ∙ c.if-b-close.true) c.requires

pub returns-then-b-eq44 : goal.returns-then-b-eq44
returns-then-b-eq44 c = more_here c.args.text.now c.args.from c.skip-at.result c.args.close c.skip-at.ensures (sym ((c.byte_at-b.ensures ∙ byte_at_lem _ _)) ∙ c.if-b-eq44.true) (λ e. c.if-b-close.false ((c.byte_at-b.ensures ∙ byte_at_lem _ _) ∙ e))

pub returns-else-b-eq44 : goal.returns-else-b-eq44
returns-else-b-eq44 c =
    none_here c.args.text.now c.args.from c.skip-at.result c.args.close c.skip-at.ensures
    (λ e. c.if-b-close.false ((c.byte_at-b.ensures ∙ byte_at_lem _ _) ∙ e)) (λ e. c.if-b-eq44.false ((c.byte_at-b.ensures ∙ byte_at_lem _ _) ∙ e))
