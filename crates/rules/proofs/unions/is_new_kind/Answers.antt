-- `rules::unions::is_new_kind` meets its contract: the answer for what is left is the whole answer.
-- Assumes nothing.
use mathlib.Core.Path.{◌∙◌, ap, refl, sym}
use mathlib.Core.Bool.{not}
use mathlib.Core.List.{List, []}
use Prim.Native.Nat.{ℕ}
use borrow.Author.Tests.{eq-eqb, ne_eqb}
use Rattle.rules.proofs.Earlier.{some, some_done, some_found, some_here, some_turn}
use Rattle.rules.proofs.Heads.{Numbered, kind_some_new}
use Rattle.form.proofs.Laws.{visit_less}
use Rattle.rules.specs.Unions.{before}
use Rattle.view.proofs.Laws.{left_start}
use Rattle.rules.proofs.unions.is_new_kind.Goals as goal

pub loop-spot-init : goal.loop-spot-init
loop-spot-init c = ap (λ (l : List ℕ). some (Numbered c.args.text.now c.number-number.result) (before c.args.member l)) (left_start _ _ c.first_element-spot.ensures)

pub returns : goal.returns
returns c = λ namespace. ap not (some_done (Numbered c.args.text.now c.number-number.result) _ _ c.loop-spot.invariant c.in_default.is) ∙ kind_some_new c.args.text.now namespace c.args.kind c.number-number.ensures _

pub returns-then-p-member : goal.returns-then-p-member
returns-then-p-member c = λ namespace. ap not (some_here (Numbered c.args.text.now c.number-number.result) _ _ c.loop-spot.invariant c.in-Some.is c.if-p-member.true) ∙ kind_some_new c.args.text.now namespace c.args.kind c.number-number.ensures _

pub returns-then-head_number-number : goal.returns-then-head_number-number
returns-then-head_number-number c = λ namespace. ap not (some_found (Numbered c.args.text.now c.number-number.result) _ _ c.loop-spot.invariant c.in-Some.is c.if-p-member.false refl (eq-eqb _ _ (sym (c.head_number.ensures []) ∙ c.if-head_number-number.true))) ∙ kind_some_new c.args.text.now namespace c.args.kind c.number-number.ensures _

pub loop-spot-smaller : goal.loop-spot-smaller
loop-spot-smaller c = visit_less _ c.in-Some.is c.next_element-spot.ensures

pub loop-spot-preserved : goal.loop-spot-preserved
loop-spot-preserved c = some_turn (Numbered c.args.text.now c.number-number.result) _ _ c.loop-spot.invariant c.in-Some.is c.if-p-member.false refl (ne_eqb _ _ (λ e. c.if-head_number-number.false (c.head_number.ensures [] ∙ e))) c.next_element-spot.ensures
