-- `breach::places::breach_from` meets its contract. The invariant: from here on the rule that is left breaks where the whole does.
-- Assumes nothing.
use mathlib.Core.Path.{refl, sym, ◌∙◌}
use native.Mathlib.Omega.{arith}
use Rattle.view.proofs.Laws.{stop_in}
use Rattle.breach.proofs.Laws.{breach_end}
use Rattle.breach.proofs.Turns.{bytewise, turn_broken, turn_on, turn_ahead}
use Rattle.breach.proofs.places.breach_from.Goals as goal

pub loop-x-init : goal.loop-x-init
loop-x-init c = bytewise _ _ _

pub character_at-x-requires : goal.character_at-x-requires
character_at-x-requires c = stop_in _ _ _ refl (sym c.is_end.ensures ∙ c.loop-x-test.true)

pub bounds-bytes-0 : goal.bounds-bytes-0
bounds-bytes-0 c = omega arith

pub returns-then-not-may_stand : goal.returns-then-not-may_stand
returns-then-not-may_stand c = sym (turn_broken _ _ c.character_at-x.ensures _ _ c.may_stand.ensures c.if-not-may_stand.true) ∙ c.loop-x.invariant

pub loop-x-smaller : goal.loop-x-smaller
loop-x-smaller c = let h = stop_in _ _ _ refl (sym c.is_end.ensures ∙ c.loop-x-test.true) in let a = turn_ahead _ _ c.character_at-x.ensures in omega arith

pub loop-x-preserved : goal.loop-x-preserved
loop-x-preserved c = sym (turn_on _ _ c.character_at-x.ensures _ _ c.may_stand.ensures (sym c.is_end.ensures ∙ c.loop-x-test.true) c.if-not-may_stand.false) ∙ c.loop-x.invariant

pub returns : goal.returns
returns c = sym (breach_end _ _ _ _ (sym c.is_end.ensures ∙ c.loop-x-test.false)) ∙ c.loop-x.invariant
