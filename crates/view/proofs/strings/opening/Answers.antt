-- `view::strings::opening` meets its contract.
-- Assumes nothing.
use native.Mathlib.Omega.{arith}
use Rattle.view.proofs.Places.{in_text}
use Rattle.view.proofs.Undone.{opened, unopened}
use Rattle.view.proofs.strings.opening.Goals as goal

pub overflow_add-result : goal.overflow_add-result
overflow_add-result c = let h = in_text _ _ _ _ c.byte_at.ensures c.if-byte_at-eq34.true (omega arith) in omega arith

pub returns-then-byte_at-eq34 : goal.returns-then-byte_at-eq34
returns-then-byte_at-eq34 c = opened _ _ _ c.byte_at.ensures c.if-byte_at-eq34.true

pub returns : goal.returns
returns c = unopened _ _ _ c.byte_at.ensures c.if-byte_at-eq34.false
