-- `view::space::skip` meets its contract.
-- Assumes nothing.
use Rattle.view.proofs.Places.{skip_step, skip_stop, skip_out}
use native.Mathlib.Omega.{arith}
use mathlib.Core.Path.{◌≡◌, refl, sym, ◌∙◌}
use Rattle.view.proofs.space.skip.Goals as goal

pub loop-p-init : goal.loop-p-init
loop-p-init c = (omega arith, refl)

pub returns-then-not-is_space : goal.returns-then-not-is_space
returns-then-not-is_space c = skip_stop _ _ c.loop-p-test.true (sym c.is_space.ensures ∙ c.if-not-is_space.true) ∙ c.loop-p.invariant.1

pub loop-p-preserved : goal.loop-p-preserved
loop-p-preserved c = (omega arith, skip_step _ _ c.loop-p-test.true (sym c.is_space.ensures ∙ c.if-not-is_space.false) ∙ c.loop-p.invariant.1)

pub returns : goal.returns
returns c =
    let e : c.max.result ≡ c.loop-p.p = omega arith in
    e ∙ skip_out _ _ (omega arith) ∙ c.loop-p.invariant.1
