-- `view::ends::past_string` meets its contract.
-- Assumes nothing.
use Rattle.view.proofs.Places.{closing_out}
use Rattle.view.proofs.Closing.{string_quote, string_byte, string_letter}
use native.Mathlib.Omega.{arith}
use mathlib.Core.Path.{◌≡◌, refl, ◌∙◌}
use Rattle.view.proofs.ends.past_string.Goals as goal

pub loop-p-init : goal.loop-p-init
loop-p-init c = (omega arith, refl)

pub loop-p-preserved-then-b-gt92 : goal.loop-p-preserved-then-b-gt92
loop-p-preserved-then-b-gt92 c = (omega arith, string_letter _ _ c.loop-p-test.true c.if-b-gt92.true ∙ c.loop-p.invariant.1)

pub returns-then-b-eq34 : goal.returns-then-b-eq34
returns-then-b-eq34 c = string_quote _ _ c.loop-p-test.true c.if-b-eq34.true ∙ c.loop-p.invariant.1

pub returns-then-b-eq92 : goal.returns-then-b-eq92
returns-then-b-eq92 c = c.past_escapes.ensures ∙ c.loop-p.invariant.1

pub loop-p-preserved : goal.loop-p-preserved
loop-p-preserved c = (omega arith, string_byte _ _ c.loop-p-test.true c.if-b-eq34.false c.if-b-eq92.false ∙ c.loop-p.invariant.1)

pub returns : goal.returns
returns c =
    let e : c.max.result ≡ c.loop-p.p = omega arith in
    e ∙ closing_out _ _ _ _ (omega arith) ∙ c.loop-p.invariant.1
