-- `view::members::first_member` meets its contract.
-- Assumes nothing.
use native.Mathlib.Omega.{arith}
use Rattle.view.proofs.Places.{in_text, key_first, key_none}
use Rattle.view.proofs.members.first_member.Goals as goal

pub overflow_add-at : goal.overflow_add-at
overflow_add-at c = let h = in_text _ _ _ _ c.byte_at.ensures c.if-byte_at-eq123.true (omega arith) in omega arith

pub returns-then-byte_at-eq123 : goal.returns-then-byte_at-eq123
returns-then-byte_at-eq123 c = key_first _ _ _ c.byte_at.ensures c.if-byte_at-eq123.true c.member_from.ensures

pub returns : goal.returns
returns c = key_none _ _ _ c.byte_at.ensures c.if-byte_at-eq123.false
