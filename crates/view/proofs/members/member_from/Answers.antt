-- `view::members::member_from` meets its contract: a key, a colon, a value.
-- Assumes nothing.
use mathlib.Core.Path.{sym, ◌∙◌}
use native.Mathlib.Omega.{arith}
use Rattle.view.proofs.Places.{in_text, no_key, no_colon, no_member, is_member_lem}
use Rattle.view.proofs.members.member_from.Goals as goal

pub returns-then-byte_at-ne34 : goal.returns-then-byte_at-ne34
returns-then-byte_at-ne34 c = no_key _ _ _ _ c.skip-key.ensures c.byte_at.ensures c.if-byte_at-ne34.true

pub returns-then-byte_at-ne58 : goal.returns-then-byte_at-ne58
returns-then-byte_at-ne58 c = no_colon _ _ _ _ c.skip-key.ensures c.byte_at.ensures c.if-byte_at-ne34.false c.end.ensures c.skip-colon.ensures c.byte_at-2.ensures c.if-byte_at-ne58.true

pub overflow_add-colon : goal.overflow_add-colon
overflow_add-colon c = let h = in_text _ _ _ _ c.byte_at-2.ensures c.if-byte_at-ne58.false (omega arith) in omega arith

pub returns-then-starts_value : goal.returns-then-starts_value
returns-then-starts_value c = is_member_lem _ _ _ _ c.skip-key.ensures c.byte_at.ensures c.if-byte_at-ne34.false c.end.ensures c.skip-colon.ensures c.byte_at-2.ensures c.if-byte_at-ne58.false c.skip-value.ensures c.byte_at-3.ensures (sym c.starts_value.ensures ∙ c.if-starts_value.true)

pub returns : goal.returns
returns c = no_member _ _ _ _ c.skip-key.ensures c.byte_at.ensures c.if-byte_at-ne34.false c.end.ensures c.skip-colon.ensures c.byte_at-2.ensures c.if-byte_at-ne58.false c.skip-value.ensures c.byte_at-3.ensures (sym c.starts_value.ensures ∙ c.if-starts_value.false)
