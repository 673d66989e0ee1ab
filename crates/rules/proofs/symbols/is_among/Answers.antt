-- `rules::symbols::is_among` meets its contract: the answer for what is left is the whole answer.
-- Assumes nothing.
use mathlib.Core.Path.{◌∙◌, ap}
use mathlib.Core.List.{List}
use Prim.Native.Nat.{ℕ}
use Rattle.rules.proofs.Earlier.{some, some_done, some_found, some_here, some_turn}
use Rattle.rules.proofs.Listed.{Alike, among_some}
use Rattle.form.proofs.Laws.{visit_less}
use Rattle.rules.specs.Unions.{before}
use Rattle.view.proofs.Laws.{left_start}
use Rattle.rules.proofs.symbols.is_among.Goals as goal

pub loop-spot-init : goal.loop-spot-init
loop-spot-init c = ap (λ (l : List ℕ). some (Alike c.args.text.now c.args.at) (before c.args.place l)) (left_start _ _ c.first_element-spot.ensures)

pub returns : goal.returns
returns c = some_done (Alike c.args.text.now c.args.at) _ _ c.loop-spot.invariant c.in_default.is ∙ (among_some c.args.text.now c.args.at _)

pub returns-then-p-place : goal.returns-then-p-place
returns-then-p-place c = some_here (Alike c.args.text.now c.args.at) _ _ c.loop-spot.invariant c.in-Some.is c.if-p-place.true ∙ (among_some c.args.text.now c.args.at _)

pub returns-then-strings_same : goal.returns-then-strings_same
returns-then-strings_same c = some_found (Alike c.args.text.now c.args.at) _ _ c.loop-spot.invariant c.in-Some.is c.if-p-place.false c.strings_same.ensures c.if-strings_same.true ∙ (among_some c.args.text.now c.args.at _)

pub loop-spot-smaller : goal.loop-spot-smaller
loop-spot-smaller c = visit_less _ c.in-Some.is c.next_element-spot.ensures

pub loop-spot-preserved : goal.loop-spot-preserved
loop-spot-preserved c = some_turn (Alike c.args.text.now c.args.at) _ _ c.loop-spot.invariant c.in-Some.is c.if-p-place.false c.strings_same.ensures c.if-strings_same.false c.next_element-spot.ensures
