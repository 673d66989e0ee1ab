-- `schema::names::put_field_aliases` meets its contract: what the rows that are left make of the draft, all make of the first.
-- Assumes nothing.
use Rattle.std.proofs.lemmas.Result.{err_from_is_err_and}
use borrow.Author.Rules.{rules}
use Rattle.schema.proofs.Steps.{each_done, each_next}
use Rattle.schema.proofs.Did.{did_none, did_eq, did_stop, did_then}
use Rattle.form.proofs.Laws.{visit_less}
use mathlib.Core.Path.{refl}
use Rattle.schema.proofs.names.put_field_aliases.Goals as goal

pub loop-spot-init : goal.loop-spot-init
loop-spot-init c = (refl, λ m r d. d)

pub returns : goal.returns
returns c = c.loop-spot.invariant.1 _ _ (did_eq (each_done _ _ c.in_default.is) (did_none _ _))

pub returns-in_err-sum : goal.returns-in_err-sum
returns-in_err-sum c =
    let p = err_from_is_err_and c.from_residual.result c.from_residual.ensures.1 in
    rw (p.1, p.2) (c.loop-spot.invariant.1 _ _ (did_eq (each_next _ _ c.in-Some.is refl) (did_stop _ _ c.put_field_alias.ensures c.in_err-sum.was)))

pub loop-spot-smaller : goal.loop-spot-smaller
loop-spot-smaller c = visit_less _ c.in-Some.is c.next_element-spot.ensures

pub loop-spot-preserved : goal.loop-spot-preserved
loop-spot-preserved c = (search rules, λ m r d. c.loop-spot.invariant.1 m r (did_eq (each_next _ _ c.in-Some.is c.next_element-spot.ensures) (did_then _ _ c.put_field_alias.ensures c.in_ok-sum.was d)))
