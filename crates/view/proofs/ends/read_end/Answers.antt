-- `view::ends::read_end` meets its contract.
-- Assumes nothing.
use Rattle.view.proofs.Places.{in_text}
use Rattle.view.proofs.Closing.{end_string, end_bracket, end_other, bracket_in_text}
use native.Mathlib.Omega.{arith}
use mathlib.Core.Path.{sym, ◌∙◌}
use Rattle.view.proofs.ends.read_end.Goals as goal

pub overflow_add-at : goal.overflow_add-at
overflow_add-at c = let h = in_text _ _ _ _ c.byte_at-b.ensures c.if-b-eq34.true (omega arith) in omega arith

pub returns-then-b-eq34 : goal.returns-then-b-eq34
returns-then-b-eq34 c = c.past_string.ensures ∙ end_string _ _ _ c.byte_at-b.ensures c.if-b-eq34.true

pub overflow_add-at-then-is_bracket : goal.overflow_add-at-then-is_bracket
overflow_add-at-then-is_bracket c = let h = bracket_in_text _ _ _ c.byte_at-b.ensures (sym c.is_bracket.ensures ∙ c.if-is_bracket.true) in omega arith

pub returns-then-is_bracket : goal.returns-then-is_bracket
returns-then-is_bracket c = c.past_bracket.ensures ∙ end_bracket _ _ _ c.byte_at-b.ensures (sym c.is_bracket.ensures ∙ c.if-is_bracket.true)

pub returns : goal.returns
returns c = c.literal_end.ensures ∙ end_other _ _ _ c.byte_at-b.ensures c.if-b-eq34.false (sym c.is_bracket.ensures ∙ c.if-is_bracket.false)
