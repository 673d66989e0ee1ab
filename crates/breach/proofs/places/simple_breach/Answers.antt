-- `breach::places::simple_breach` meets its contract.
-- Assumes nothing.
use native.Mathlib.Omega.{arith}
use Rattle.view.proofs.Laws.{in_text}
use Rattle.name.specs.Name.{is_simple}
use Rattle.breach.proofs.Turns.{at_quote, no_quote}
use Rattle.breach.proofs.places.simple_breach.Goals as goal

pub overflow_add-at : goal.overflow_add-at
overflow_add-at c = let h = in_text _ _ _ _ c.byte_at.ensures c.if-byte_at-eq34.true (omega arith) in omega arith

pub returns-then-byte_at-eq34 : goal.returns-then-byte_at-eq34
returns-then-byte_at-eq34 c = at_quote is_simple _ _ c.byte_at.ensures c.if-byte_at-eq34.true c.breach_from.ensures

pub returns : goal.returns
returns c = no_quote is_simple _ _ c.byte_at.ensures c.if-byte_at-eq34.false
