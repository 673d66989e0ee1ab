-- `breach::places::name_breach` meets its contract.
-- Assumes nothing.
use mathlib.Core.Path.{refl, sym, ◌∙◌}
use native.Mathlib.Omega.{arith}
use Rattle.view.proofs.Laws.{in_text, stop_in}
use Rattle.name.specs.Name.{is_name}
use Rattle.breach.proofs.Laws.{breach_end}
use Rattle.breach.proofs.Turns.{at_quote, no_quote, behind_dot, no_dot}
use Rattle.breach.proofs.places.name_breach.Goals as goal

pub returns-then-byte_at-ne34 : goal.returns-then-byte_at-ne34
returns-then-byte_at-ne34 c = no_quote is_name _ _ c.byte_at.ensures c.if-byte_at-ne34.true

pub overflow_add-start : goal.overflow_add-start
overflow_add-start c = let h = in_text _ _ _ _ c.byte_at.ensures c.if-byte_at-ne34.false (omega arith) in omega arith

pub returns-then-is_end : goal.returns-then-is_end
returns-then-is_end c = at_quote is_name _ _ c.byte_at.ensures c.if-byte_at-ne34.false (sym (breach_end _ _ _ _ (sym c.is_end.ensures ∙ c.if-is_end.true)))

pub character_at-x-requires : goal.character_at-x-requires
character_at-x-requires c = stop_in _ _ _ refl (sym c.is_end.ensures ∙ c.if-is_end.false)

pub bounds-bytes-0 : goal.bounds-bytes-0
bounds-bytes-0 c = omega arith

pub returns-then-bytes-eq46 : goal.returns-then-bytes-eq46
returns-then-bytes-eq46 c = at_quote is_name _ _ c.byte_at.ensures c.if-byte_at-ne34.false (c.breach_from.ensures ∙ sym (behind_dot _ _ c.character_at-x.ensures (sym c.is_end.ensures ∙ c.if-is_end.false) c.if-bytes-eq46.true))

pub returns : goal.returns
returns c = at_quote is_name _ _ c.byte_at.ensures c.if-byte_at-ne34.false (c.breach_from-2.ensures ∙ sym (no_dot _ _ c.character_at-x.ensures c.if-bytes-eq46.false))
