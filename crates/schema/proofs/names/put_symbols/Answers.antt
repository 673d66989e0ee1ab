-- `schema::names::put_symbols` meets its contract: what the rows that are left make of the draft, all make of the first.
-- Assumes nothing.
use borrow.Author.Rules.{rules}
use Rattle.schema.proofs.Leaves.{symbol_put}
use Rattle.schema.proofs.Steps.{each_done, each_next, within_start, within_first, within_next}
use Rattle.schema.proofs.Did.{did_none, did_eq, did_then}
use Rattle.view.proofs.Laws.{left_start}
use Rattle.schema.specs.Out.{each}
use Rattle.form.proofs.Laws.{visit_less}
use native.Mathlib.Omega.{arith}
use mathlib.Core.Path.{refl, sym, ap}
use Rattle.schema.proofs.names.put_symbols.Goals as goal

pub loop-spot-init : goal.loop-spot-init
loop-spot-init c = (refl, within_start _ _ c.first_element-spot.ensures, λ m r d. d)

pub returns : goal.returns
returns c = did_eq (ap (each _) (sym (left_start _ _ c.first_element-spot.ensures))) (c.loop-spot.invariant.2 _ _ (did_eq (each_done _ _ c.in_default.is) (did_none _ _)))

pub put_string-sum-requires : goal.put_string-sum-requires
put_string-sum-requires c = let h = within_first _ c.loop-spot.invariant.1 c.in-Some.is in (omega arith, omega arith, search rules)

pub loop-spot-smaller : goal.loop-spot-smaller
loop-spot-smaller c = visit_less _ c.in-Some.is c.next_element-spot.ensures

pub loop-spot-preserved : goal.loop-spot-preserved
loop-spot-preserved c = (
  search rules,
  within_next _ c.loop-spot.invariant.1 c.in-Some.is c.next_element-spot.ensures,
  λ m r d. c.loop-spot.invariant.2 m r (did_eq (each_next _ _ c.in-Some.is c.next_element-spot.ensures) (did_then _ _ (symbol_put _ _ _ c.put_string-sum.ensures) refl d)),
)
