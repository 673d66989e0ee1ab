-- `rules::symbols::all_strings` meets its contract: the check of what is left is the whole one.
-- Assumes nothing.
use mathlib.Core.Path.{ap}
use Rattle.rules.proofs.Listed.{strings_done, strings_not, strings_turn, strings_of}
use Rattle.form.proofs.Laws.{visit_less}
use Rattle.view.proofs.Laws.{left_start}
use Rattle.rules.proofs.symbols.all_strings.Goals as goal

pub loop-spot-init : goal.loop-spot-init
loop-spot-init c = ap (strings_of _) (left_start _ _ c.first_element-spot.ensures)

pub returns : goal.returns
returns c = strings_done _ c.loop-spot.invariant c.in_default.is

pub returns-then-not-is_text : goal.returns-then-not-is_text
returns-then-not-is_text c = strings_not _ c.loop-spot.invariant c.in-Some.is c.is_text.ensures c.if-not-is_text.true

pub loop-spot-smaller : goal.loop-spot-smaller
loop-spot-smaller c = visit_less _ c.in-Some.is c.next_element-spot.ensures

pub loop-spot-preserved : goal.loop-spot-preserved
loop-spot-preserved c = strings_turn _ c.loop-spot.invariant c.in-Some.is c.is_text.ensures c.if-not-is_text.false c.next_element-spot.ensures
