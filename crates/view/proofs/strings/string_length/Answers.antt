-- `view::strings::string_length` meets its contract.
-- Assumes nothing.
use mathlib.Core.Path.{sym, ◌∙◌}
use native.Mathlib.Omega.{arith}
use Rattle.view.proofs.Places.{in_text}
use Rattle.view.proofs.Plain.{run_length}
use Rattle.view.proofs.strings.string_length.Goals as goal

pub overflow_add-start : goal.overflow_add-start
overflow_add-start c = let h = in_text _ _ _ _ c.byte_at.ensures c.if-byte_at-eq34.true (omega arith) in omega arith

pub plain_end-e-requires : goal.plain_end-e-requires
plain_end-e-requires c = let h = in_text _ _ _ _ c.byte_at.ensures c.if-byte_at-eq34.true (omega arith) in omega arith

pub overflow_sub-result : goal.overflow_sub-result
overflow_sub-result c = c.plain_end-e.ensures.ahead

pub returns-then-is_stop : goal.returns-then-is_stop
returns-then-is_stop c = run_length _ _ _ c.byte_at.ensures c.if-byte_at-eq34.true c.plain_end-e.ensures c.byte_at-then-byte_at-eq34.ensures (sym c.is_stop.ensures ∙ c.if-is_stop.true)

pub returns : goal.returns
returns c = c.spelled_length.ensures
