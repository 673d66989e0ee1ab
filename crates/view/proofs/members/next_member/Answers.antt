-- `view::members::next_member` meets its contract.
-- Assumes nothing.
use native.Mathlib.Omega.{arith}
use Rattle.view.proofs.Places.{in_text, key_next, key_last}
use Rattle.view.proofs.members.next_member.Goals as goal

pub overflow_add-e : goal.overflow_add-e
overflow_add-e c = let h = in_text _ _ _ _ c.byte_at.ensures c.if-byte_at-eq44.true (omega arith) in omega arith

pub returns-then-byte_at-eq44 : goal.returns-then-byte_at-eq44
returns-then-byte_at-eq44 c = key_next _ _ c.end.ensures c.skip-e.ensures c.byte_at.ensures c.if-byte_at-eq44.true c.member_from.ensures

pub returns : goal.returns
returns c = key_last _ _ c.end.ensures c.skip-e.ensures c.byte_at.ensures c.if-byte_at-eq44.false
