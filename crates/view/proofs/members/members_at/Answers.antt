-- `view::members::members_at` meets its contract: what will be found is the answer.
-- Assumes nothing.
use Rattle.std.specs.Prelude.{None}
use mathlib.Core.Path.{refl}
use native.Mathlib.Omega.{arith}
use Rattle.view.proofs.OnePass.{pass_start, pass_turn, pass_less, pass_end, collected, number_few}
use Rattle.view.proofs.members.members_at.Goals as goal

pub loop-entry-init : goal.loop-entry-init
loop-entry-init c = pass_start _ _ refl c.first_member-entry.ensures

pub bounds-found-0 : goal.bounds-found-0
bounds-found-0 c = omega arith

pub bounds-found-1 : goal.bounds-found-1
bounds-found-1 c = omega arith

pub bounds-found-2 : goal.bounds-found-2
bounds-found-2 c = omega arith

pub bounds-found-3 : goal.bounds-found-3
bounds-found-3 c = omega arith

pub bounds-found-4 : goal.bounds-found-4
bounds-found-4 c = omega arith

pub bounds-found-5 : goal.bounds-found-5
bounds-found-5 c = omega arith

pub bounds-found-6 : goal.bounds-found-6
bounds-found-6 c = omega arith

pub bounds-found-7 : goal.bounds-found-7
bounds-found-7 c = omega arith

pub bounds-found-8 : goal.bounds-found-8
bounds-found-8 c = omega arith

pub bounds-found-9 : goal.bounds-found-9
bounds-found-9 c = omega arith

pub bounds-found-10 : goal.bounds-found-10
bounds-found-10 c = omega arith

pub bounds-found-11 : goal.bounds-found-11
bounds-found-11 c = omega arith

pub bounds-found-12 : goal.bounds-found-12
bounds-found-12 c = omega arith

pub returns : goal.returns
returns c = collected _ _ c.loop-entry.found (pass_end _ _ c.loop-entry.invariant c.in_default.is) None

pub offset_bounds-found-n : goal.offset_bounds-found-n
offset_bounds-found-n c = let h = number_few _ c.key_number-n.ensures in omega arith

pub bounds-found-n : goal.bounds-found-n
bounds-found-n c = let k = number_few _ c.key_number-n.ensures in omega arith

pub loop-entry-smaller : goal.loop-entry-smaller
loop-entry-smaller c = pass_less _ c.loop-entry.invariant.true_entry c.in-Some.is c.next_member-entry.ensures

pub loop-entry-preserved : goal.loop-entry-preserved
loop-entry-preserved c = pass_turn _ _ c.loop-entry.invariant c.in-Some.is c.key_number-n.ensures refl c.next_member-entry.ensures
