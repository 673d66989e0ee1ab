-- `view::ends::literal_end` meets its contract.
-- Assumes nothing.
use Rattle.view.proofs.Places.{literal_step, literal_stop, literal_out}
use native.Mathlib.Omega.{arith}
use mathlib.Core.Path.{◌≡◌, refl, sym, ◌∙◌}
use Rattle.view.proofs.ends.literal_end.Goals as goal

pub loop-p-init : goal.loop-p-init
loop-p-init c = (omega arith, refl)

pub returns-then-is_delimiter : goal.returns-then-is_delimiter
returns-then-is_delimiter c = literal_stop _ _ c.loop-p-test.true (sym c.is_delimiter.ensures ∙ c.if-is_delimiter.true) ∙ c.loop-p.invariant.1

pub loop-p-preserved : goal.loop-p-preserved
loop-p-preserved c = (omega arith, literal_step _ _ c.loop-p-test.true (sym c.is_delimiter.ensures ∙ c.if-is_delimiter.false) ∙ c.loop-p.invariant.1)

pub returns : goal.returns
returns c =
    let e : c.max.result ≡ c.loop-p.p = omega arith in
    e ∙ literal_out _ _ (omega arith) ∙ c.loop-p.invariant.1
