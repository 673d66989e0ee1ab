-- `view::ends::past_escapes` meets its contract.
-- Assumes nothing.
use Rattle.view.proofs.Places.{closing_out}
use Rattle.view.proofs.Closing.{string_quote, string_byte, string_slash, string_cut}
use mathlib.Core.Path.{refl, ◌∙◌}
use Rattle.view.proofs.ends.past_escapes.Goals as goal

pub loop-p-init : goal.loop-p-init
loop-p-init c = refl

pub returns-then-b-eq34 : goal.returns-then-b-eq34
returns-then-b-eq34 c = string_quote _ _ c.loop-p-test.true c.if-b-eq34.true ∙ c.loop-p.invariant

pub loop-p-preserved-then-p-text : goal.loop-p-preserved-then-p-text
loop-p-preserved-then-p-text c = string_slash _ _ c.loop-p-test.true c.if-b-eq92.true c.if-p-text.true ∙ c.loop-p.invariant

pub loop-p-preserved-else-p-text : goal.loop-p-preserved-else-p-text
loop-p-preserved-else-p-text c = string_cut _ _ c.loop-p-test.true c.if-b-eq92.true c.if-p-text.false ∙ c.loop-p.invariant

pub loop-p-preserved : goal.loop-p-preserved
loop-p-preserved c = string_byte _ _ c.loop-p-test.true c.if-b-eq34.false c.if-b-eq92.false ∙ c.loop-p.invariant

pub returns : goal.returns
returns c = closing_out _ _ _ _ c.loop-p-test.false ∙ c.loop-p.invariant
