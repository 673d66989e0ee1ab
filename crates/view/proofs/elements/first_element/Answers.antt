-- `view::elements::first_element` meets its contract.
-- Assumes nothing.
use native.Mathlib.Omega.{arith}
use Rattle.view.proofs.Places.{in_text, element_first, element_none}
use Rattle.view.proofs.elements.first_element.Goals as goal

pub overflow_add-at : goal.overflow_add-at
overflow_add-at c = let h = in_text _ _ _ _ c.byte_at.ensures c.if-byte_at-eq91.true (omega arith) in omega arith

pub returns-then-byte_at-eq91 : goal.returns-then-byte_at-eq91
returns-then-byte_at-eq91 c = element_first _ _ _ c.byte_at.ensures c.if-byte_at-eq91.true c.value_from.ensures

pub returns : goal.returns
returns c = element_none _ _ _ c.byte_at.ensures c.if-byte_at-eq91.false
