-- `json_scan::literal` meets its contract. Assumes nothing.
use mathlib.Core.Path.{ap, subst, ◌∙◌}
use native.Mathlib.Omega.{arith}
use Prim.Native.Nat.{◌≤◌, ◌<◌}
use lib.ListN.{length}
use Rattle.std.proofs.lemmas.List.Elements.{All-get_or}
use Rattle.std.proofs.lemmas.Result.{err_from_is_err_and}
use Rattle.json_scan.specs.Meets.{Forth, on_step}
use Rattle.json_scan.proofs.Readers.{letter}
use Rattle.json_scan.proofs.step.literal.Goals as goal

pub returns-in_err-at : goal.returns-in_err-at
returns-in_err-at c =
    let p = err_from_is_err_and c.from_residual.result c.from_residual.ensures.1 in
    let l = letter _ _ c.loop-x.x-index c.loop-x.at c.loop-x-test.true (All-get_or (λ x. 0 < x) _ _ 0 c.loop-x-test.true c.requires.letters) _ c.byte.ensures in
    rw (p.1, p.2) (record { same = λ k. c.loop-x.invariant.2 k ∙ l.same k ∙ ap (on_step _ _ k) c.in_err-at.was; forth = tt })

pub loop-x-preserved : goal.loop-x-preserved
loop-x-preserved c =
    let l = letter _ _ c.loop-x.x-index c.loop-x.at c.loop-x-test.true (All-get_or (λ x. 0 < x) _ _ 0 c.loop-x-test.true c.requires.letters) _ c.byte.ensures in
    let f : (c.loop-x.at < c.in_ok-at.at) × (c.in_ok-at.at ≤ length c.args.text.now) = subst (Forth _ _) c.in_ok-at.was l.forth in
    (omega arith, λ _. (omega arith, f.1), λ k. c.loop-x.invariant.2 k ∙ l.same k ∙ ap (on_step _ _ k) c.in_ok-at.was)
