-- `breach::places::namespace_breach` meets its contract.
-- Assumes nothing.
use mathlib.Core.Path.{◌∙◌}
use native.Mathlib.Omega.{arith}
use Rattle.view.proofs.Laws.{in_text}
use Rattle.name.specs.Name.{is_namespace}
use Rattle.breach.proofs.Turns.{at_quote, no_quote, joined_namespace}
use Rattle.breach.proofs.places.namespace_breach.Goals as goal

pub overflow_add-at : goal.overflow_add-at
overflow_add-at c = let h = in_text _ _ _ _ c.byte_at.ensures c.if-byte_at-eq34.true (omega arith) in omega arith

pub returns-then-byte_at-eq34 : goal.returns-then-byte_at-eq34
returns-then-byte_at-eq34 c = at_quote is_namespace _ _ c.byte_at.ensures c.if-byte_at-eq34.true (c.breach_from.ensures ∙ joined_namespace _ _)

pub returns : goal.returns
returns c = no_quote is_namespace _ _ c.byte_at.ensures c.if-byte_at-eq34.false
