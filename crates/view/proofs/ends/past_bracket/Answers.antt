-- `view::ends::past_bracket` meets its contract.
-- Assumes nothing.
use Rattle.view.proofs.Places.{closing_out}
use Rattle.view.proofs.Closing.{closing_ahead, bracket_string, bracket_none, bracket_last, bracket_more}
use native.Mathlib.Omega.{arith}
use mathlib.Core.Path.{refl, ◌∙◌}
use Rattle.view.proofs.ends.past_bracket.Goals as goal

pub loop-p-init : goal.loop-p-init
loop-p-init c = (omega arith, omega arith, refl)

pub loop-p-smaller-then-b-eq34 : goal.loop-p-smaller-then-b-eq34
loop-p-smaller-then-b-eq34 c = let a = closing_ahead _ _ _ _ _ c.past_string-p.ensures in omega arith

pub loop-p-preserved-then-b-eq34 : goal.loop-p-preserved-then-b-eq34
loop-p-preserved-then-b-eq34 c = let a = closing_ahead _ _ _ _ _ c.past_string-p.ensures in (c.loop-p.invariant.0, omega arith, bracket_string _ _ _ c.loop-p-test.true c.loop-p.invariant.0 c.if-b-eq34.true _ c.past_string-p.ensures ∙ c.loop-p.invariant.2)

pub loop-p-preserved-then-b-lt91 : goal.loop-p-preserved-then-b-lt91
loop-p-preserved-then-b-lt91 c = (c.loop-p.invariant.0, omega arith, bracket_none _ _ _ c.loop-p-test.true c.loop-p.invariant.0 c.if-b-eq34.false c.if-b-lt91.true ∙ c.loop-p.invariant.2)

pub depth_after-d-requires : goal.depth_after-d-requires
depth_after-d-requires c = omega arith

pub returns-then-d-eq0 : goal.returns-then-d-eq0
returns-then-d-eq0 c = bracket_last _ _ _ c.loop-p-test.true c.if-b-eq34.false _ c.depth_after-d.ensures.0 c.if-d-eq0.true ∙ c.loop-p.invariant.2

pub loop-p-preserved : goal.loop-p-preserved
loop-p-preserved c = (omega arith, omega arith, bracket_more _ _ _ c.loop-p-test.true c.if-b-eq34.false _ c.depth_after-d.ensures.0 c.if-d-eq0.false ∙ c.loop-p.invariant.2)

pub returns : goal.returns
returns c = closing_out _ _ _ _ c.loop-p-test.false ∙ c.loop-p.invariant.2
