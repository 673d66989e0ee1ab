-- `form::spots::all_texts` meets its contract: the answer for what is left is the whole answer.
-- Assumes nothing.
use mathlib.Core.Path.{ap}
use Rattle.form.proofs.Places.{texts_done, texts_not, texts_turn, visit_less}
use Rattle.form.specs.Spots.{all_texts}
use Rattle.view.proofs.Laws.{left_start}
use Rattle.form.proofs.spots.all_texts.Goals as goal

pub loop-spot-init : goal.loop-spot-init
loop-spot-init c = ap (all_texts _) (left_start _ _ c.first_element-spot.ensures)

pub returns : goal.returns
returns c = texts_done _ c.loop-spot.invariant c.in_default.is

pub returns-then-not-is_text : goal.returns-then-not-is_text
returns-then-not-is_text c = texts_not _ c.loop-spot.invariant c.in-Some.is c.is_text.ensures c.if-not-is_text.true

pub loop-spot-smaller : goal.loop-spot-smaller
loop-spot-smaller c = visit_less _ c.in-Some.is c.next_element-spot.ensures

pub loop-spot-preserved : goal.loop-spot-preserved
loop-spot-preserved c = texts_turn _ c.loop-spot.invariant c.in-Some.is c.is_text.ensures c.if-not-is_text.false c.next_element-spot.ensures
