-- `rules::unions::is_new_name` meets its contract: the answer for what is left is the whole answer.
-- Assumes nothing.
use mathlib.Core.Path.{◌∙◌, ap}
use mathlib.Core.Bool.{not}
use mathlib.Core.List.{List}
use Prim.Native.Nat.{ℕ}
use Rattle.rules.proofs.Earlier.{some, some_done, some_found, some_here, some_turn}
use Rattle.rules.proofs.Heads.{Clashes, new_some}
use Rattle.form.proofs.Laws.{visit_less}
use Rattle.rules.specs.Unions.{before, called}
use Rattle.view.proofs.Laws.{left_start}
use Rattle.rules.proofs.unions.is_new_name.Goals as goal

pub loop-spot-init : goal.loop-spot-init
loop-spot-init c = ap (λ (l : List ℕ). some (Clashes c.args.text.now c.args.namespace.now (called c.args.name.now)) (before c.args.member l)) (left_start _ _ c.first_element-spot.ensures)

pub returns : goal.returns
returns c = ap not (some_done (Clashes c.args.text.now c.args.namespace.now (called c.args.name.now)) _ _ c.loop-spot.invariant c.in_default.is) ∙ new_some c.args.text.now c.args.namespace.now (called c.args.name.now) _

pub returns-then-p-member : goal.returns-then-p-member
returns-then-p-member c = ap not (some_here (Clashes c.args.text.now c.args.namespace.now (called c.args.name.now)) _ _ c.loop-spot.invariant c.in-Some.is c.if-p-member.true) ∙ new_some c.args.text.now c.args.namespace.now (called c.args.name.now) _

pub returns-then-is_head : goal.returns-then-is_head
returns-then-is_head c = ap not (some_found (Clashes c.args.text.now c.args.namespace.now (called c.args.name.now)) _ _ c.loop-spot.invariant c.in-Some.is c.if-p-member.false c.is_head.ensures c.if-is_head.true) ∙ new_some c.args.text.now c.args.namespace.now (called c.args.name.now) _

pub loop-spot-smaller : goal.loop-spot-smaller
loop-spot-smaller c = visit_less _ c.in-Some.is c.next_element-spot.ensures

pub loop-spot-preserved : goal.loop-spot-preserved
loop-spot-preserved c = some_turn (Clashes c.args.text.now c.args.namespace.now (called c.args.name.now)) _ _ c.loop-spot.invariant c.in-Some.is c.if-p-member.false c.is_head.ensures c.if-is_head.false c.next_element-spot.ensures
