-- `view::table::find_ends` meets its contract.
-- Assumes nothing.
use mathlib.Core.Path.{refl}
use native.Mathlib.Omega.{arith}
use borrow.Author.Rules.{rules}
use Rattle.view.proofs.Closing.{closing_ahead}
use Rattle.view.proofs.Filling.{stack_start, stack_string, stack_below}
use Rattle.view.proofs.table.find_ends.Goals as goal

pub loop-p-init : goal.loop-p-init
loop-p-init c = (refl, stack_start _, c.requires.1)

pub loop-p-smaller-then-b-eq34 : goal.loop-p-smaller-then-b-eq34
loop-p-smaller-then-b-eq34 c = let a = closing_ahead _ _ _ _ _ c.note_string-p.ensures.0 in omega arith

pub loop-p-preserved-then-b-eq34 : goal.loop-p-preserved-then-b-eq34
loop-p-preserved-then-b-eq34 c = (search rules, stack_string c.loop-p.invariant.1 c.loop-p-test.true c.if-b-eq34.true c.note_string-p.ensures.0, c.note_string-p.ensures.1)

pub loop-p-preserved-then-b-lt91 : goal.loop-p-preserved-then-b-lt91
loop-p-preserved-then-b-lt91 c = (c.loop-p.invariant.0, stack_below c.loop-p.invariant.1 c.loop-p-test.true c.if-b-eq34.false c.if-b-lt91.true, c.loop-p.invariant.2)

pub loop-p-preserved : goal.loop-p-preserved
loop-p-preserved c = (search rules, c.note_bracket-depth.ensures.0, c.note_bracket-depth.ensures.1)
