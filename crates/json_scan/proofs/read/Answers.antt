-- `json_scan::read` meets its contract. Assumes nothing.
use mathlib.Core.Path.{◌≡◌, refl, sym, ap, ◌∙◌}
use mathlib.Core.List.{List, []}
use Prim.Native.Nat.{ℕ}
use lib.ListN.{get_or}
use Rattle.std.proofs.lemmas.Result.{err_from_is_err_and}
use Rattle.answer.specs.declared.refusal.Why.TheVariants.{NotJson}
use Rattle.json_scan.specs.Json.{verdict, val, done}
use Rattle.json_scan.specs.Meets.{run_at, on_step}
use Rattle.json_scan.proofs.Laws.{kill, at_end}
use Rattle.json_scan.proofs.Items.{done_stays, over}
use Rattle.json_scan.proofs.read.Goals as goal

starts : (t : List ℕ) → verdict t ≡ run_at t val [] 0
unfolding verdict run_at
starts t = refl

pub returns-in_err-e : goal.returns-in_err-e
returns-in_err-e c =
    let p = err_from_is_err_and c.from_residual.result c.from_residual.ensures.1 in
    rw (p.1, p.2) (sym (starts c.args.text.now ∙ c.value.ensures.same [] refl ∙ ap (on_step c.args.text.now done []) c.in_err-e.was))

pub returns-then-at-text : goal.returns-then-at-text
returns-then-at-text c =
    sym
    (starts c.args.text.now
    ∙ c.value.ensures.same [] refl
    ∙ ap (on_step c.args.text.now done []) c.in_ok-e.was
    ∙ c.skip-at.ensures.same done done_stays []
    ∙ kill c.args.text.now done [] c.skip-at.result NotJson c.if-at-text.true (over (get_or c.args.text.now c.skip-at.result 0) c.skip-at.ensures.past))

pub returns : goal.returns
returns c =
    sym
    (starts c.args.text.now
    ∙ c.value.ensures.same [] refl
    ∙ ap (on_step c.args.text.now done []) c.in_ok-e.was
    ∙ c.skip-at.ensures.same done done_stays []
    ∙ at_end c.args.text.now done [] c.skip-at.result c.if-at-text.false)
