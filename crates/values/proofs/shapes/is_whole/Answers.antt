-- `values::shapes::is_whole` meets its contract.
-- Assumes nothing.
use native.Mathlib.Omega.{arith}
use Rattle.values.proofs.ValueLaws.{whole_minus, whole_digits}
use Rattle.view.proofs.Laws.{in_text}
use Rattle.values.proofs.shapes.is_whole.Goals as goal

pub overflow_add-at : goal.overflow_add-at
overflow_add-at c = omega (arith, in_text _ _ _ _ c.byte_at.ensures c.if-byte_at-eq45.true (omega arith))

pub returns-then-byte_at-eq45 : goal.returns-then-byte_at-eq45
returns-then-byte_at-eq45 c = whole_minus _ _ c.byte_at.ensures _ c.if-byte_at-eq45.true c.size_literal.ensures c.up_to.ensures

pub returns : goal.returns
returns c = whole_digits _ _ c.byte_at.ensures _ c.if-byte_at-eq45.false c.size_literal-2.ensures c.up_to-2.ensures
