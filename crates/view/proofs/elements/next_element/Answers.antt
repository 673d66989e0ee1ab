-- `view::elements::next_element` meets its contract.
-- Assumes nothing.
use native.Mathlib.Omega.{arith}
use Rattle.view.proofs.Places.{in_text, element_next, element_last}
use Rattle.view.proofs.elements.next_element.Goals as goal

pub overflow_add-e : goal.overflow_add-e
overflow_add-e c = let h = in_text _ _ _ _ c.byte_at.ensures c.if-byte_at-eq44.true (omega arith) in omega arith

pub returns-then-byte_at-eq44 : goal.returns-then-byte_at-eq44
returns-then-byte_at-eq44 c = element_next _ _ c.end.ensures c.skip-e.ensures c.byte_at.ensures c.if-byte_at-eq44.true c.value_from.ensures

pub returns : goal.returns
returns c = element_last _ _ c.end.ensures c.skip-e.ensures c.byte_at.ensures c.if-byte_at-eq44.false
