-- `rules::members::new_until` meets its contract: the members that were passed are new.
-- Assumes nothing.
use mathlib.Core.Path.{refl}
use Rattle.form.proofs.Laws.{visit_less}
use Rattle.rules.proofs.Surely.{going_done, going_held, going_on, going_start, going_stop}
use borrow.Author.Rules.{rules}
use Rattle.rules.proofs.members.new_until.Goals as goal

pub loop-spot-init : goal.loop-spot-init
loop-spot-init c = (refl, going_start _ _ _ c.requires.2 c.first_element-spot.ensures)

pub returns : goal.returns
returns c = going_done _ _ _ c.loop-spot.invariant.1 c.in_default.is

pub enter_member-requires : goal.enter_member-requires
enter_member-requires c = (c.requires.0, c.requires.1, c.loop-spot.invariant.1.sized, going_held _ _ _ c.loop-spot.invariant.1 c.in-Some.is)

pub returns-then-not-enter_member : goal.returns-then-not-enter_member
returns-then-not-enter_member c = going_stop _ _ _ c.loop-spot.invariant.1 c.in-Some.is

pub loop-spot-smaller : goal.loop-spot-smaller
loop-spot-smaller c = visit_less _ c.in-Some.is c.next_element-spot.ensures

pub loop-spot-preserved : goal.loop-spot-preserved
loop-spot-preserved c = (search rules, going_on _ _ _ c.loop-spot.invariant.1 c.in-Some.is c.enter_member.ensures c.if-not-enter_member.false c.next_element-spot.ensures)
