-- `set::calls::put_inside` meets its contract.
-- Assumes nothing.
use Rattle.std.proofs.lemmas.Result.{err_from_is_err_and}
use mathlib.Core.Path.{refl, sym, ◌∙◌}
use Rattle.set.proofs.Places.{is_long}
use Rattle.set.proofs.Rests.{place_few}
use Rattle.set.proofs.CallLaws.{before_well, draft_asks, inside_first, behind_asks, inside_settled}
use borrow.Author.Rules.{rules}
use native.Mathlib.Omega.{arith}
use Rattle.set.proofs.calls.put_inside.Goals as goal

pub copy_before-requires : goal.copy_before-requires
copy_before-requires c = (c.requires.0, search rules, refl)

pub slice_bounds-append-end : goal.slice_bounds-append-end
slice_bounds-append-end c = sym (is_long _ (before_well _ c.requires.0 _ c.requires.1 _ c.copy_before.ensures))

pub append-requires : goal.append-requires
append-requires c = draft_asks _ c.requires.0 _ c.requires.1 _ c.copy_before.ensures _ _ _ c.requires.2

pub returns-in_err-append : goal.returns-in_err-append
returns-in_err-append c =
    let p = err_from_is_err_and c.from_residual.result c.from_residual.ensures.1 in
    rw (p.1, p.2) (inside_first _ c.requires.0 _ c.requires.1 _ c.copy_before.ensures _ _ _ _ _ c.append.ensures _ c.in_err-append.was)

pub slice_bounds-append_from-end : goal.slice_bounds-append_from-end
slice_bounds-append_from-end c = sym (is_long _ (behind_asks _ c.requires.0 _ c.requires.1 _ c.copy_before.ensures _ _ _ _ _ c.append.ensures _ c.in_ok-append.was c.requires.2).0)

pub overflow_add-place : goal.overflow_add-place
overflow_add-place c = omega (arith, place_few _ c.requires.0 _ c.requires.1)

pub append_from-b-requires : goal.append_from-b-requires
append_from-b-requires c = behind_asks _ c.requires.0 _ c.requires.1 _ c.copy_before.ensures _ _ _ _ _ c.append.ensures _ c.in_ok-append.was c.requires.2

pub slice_bounds-settle-end : goal.slice_bounds-settle-end
slice_bounds-settle-end c = sym (c.append_from-b.auto.out ∙ is_long _ (behind_asks _ c.requires.0 _ c.requires.1 _ c.copy_before.ensures _ _ _ _ _ c.append.ensures _ c.in_ok-append.was c.requires.2).0)

pub settle-requires : goal.settle-requires
settle-requires c = is_long _ c.requires.0 ∙ sym (c.append_from-b.auto.out ∙ is_long _ (behind_asks _ c.requires.0 _ c.requires.1 _ c.copy_before.ensures _ _ _ _ _ c.append.ensures _ c.in_ok-append.was c.requires.2).0)

pub returns : goal.returns
returns c = inside_settled _ c.requires.0 _ c.requires.1 _ c.copy_before.ensures _ _ _ _ _ c.append.ensures _ c.in_ok-append.was _ c.append_from-b.ensures c.settle.ensures
