-- `set::calls::append_from` meets its contract.
-- Assumes nothing.
use Rattle.std.proofs.lemmas.Result.{err_from_is_err_and}
use mathlib.Core.Path.{sym, ◌∙◌}
use Rattle.set.proofs.Places.{is_long, counts_asks}
use Rattle.set.proofs.Rests.{places_asks, place_asks, left_all, end_asks, start_asks, bytes_order, rest_asks, rest_refused, rest_more, rest_end}
use borrow.Author.Rules.{rules}
use native.Mathlib.Omega.{arith}
use Rattle.set.proofs.calls.append_from.Goals as goal

pub declarations-n-requires : goal.declarations-n-requires
declarations-n-requires c = is_long _ c.requires.1

pub rows_before-start-requires : goal.rows_before-start-requires
rows_before-start-requires c = places_asks _ c.requires.1 _ c.requires.3

pub loop-i-init : goal.loop-i-init
loop-i-init c = (omega (arith, c.declarations-n.ensures, c.requires.3), left_all _ c.requires.1 _ c.requires.0 _ _ c.requires.2 c.requires.3 c.rows_before-start.ensures)

pub rows_of-rows-requires : goal.rows_of-rows-requires
rows_of-rows-requires c = place_asks _ c.requires.1 c.loop-i.i (omega (arith, c.declarations-n.ensures, c.loop-i-test.true, c.requires.3))

pub overflow_add-end : goal.overflow_add-end
overflow_add-end c = omega (arith, (end_asks _ c.requires.1 c.loop-i.i (omega (arith, c.declarations-n.ensures, c.loop-i-test.true, c.requires.3)) _ c.rows_of-rows.ensures.0 _ _ _ c.loop-i.invariant.1).1)

pub strings_before-requires : goal.strings_before-requires
strings_before-requires c = end_asks _ c.requires.1 c.loop-i.i (omega (arith, c.declarations-n.ensures, c.loop-i-test.true, c.requires.3)) _ c.rows_of-rows.ensures.0 _ _ _ c.loop-i.invariant.1

pub strings_before-requires-in-loop-i : goal.strings_before-requires-in-loop-i
strings_before-requires-in-loop-i c = start_asks _ c.requires.1 c.loop-i.i (omega (arith, c.declarations-n.ensures, c.loop-i-test.true, c.requires.3)) _ c.rows_of-rows.ensures.0 _ _ _ c.loop-i.invariant.1

pub overflow_sub-bytes : goal.overflow_sub-bytes
overflow_sub-bytes c = bytes_order _ c.requires.1 c.loop-i.i (omega (arith, c.declarations-n.ensures, c.loop-i-test.true, c.requires.3)) _ c.rows_of-rows.ensures.0 _ _ _ c.loop-i.invariant.1 _ c.strings_before.ensures _ c.strings_before-in-loop-i.ensures

pub append-requires : goal.append-requires
append-requires c = rest_asks _ c.requires.1 c.loop-i.i (omega (arith, c.declarations-n.ensures, c.loop-i-test.true, c.requires.3)) _ c.rows_of-rows.ensures.0 _ _ _ c.loop-i.invariant.1 _ c.strings_before.ensures _ c.strings_before-in-loop-i.ensures

pub shape_of-out-in_err-append : goal.shape_of-out-in_err-append
shape_of-out-in_err-append c = c.append.auto.out ∙ is_long _ c.loop-i.invariant.1.well ∙ sym (is_long _ c.requires.0)

pub returns-in_err-append : goal.returns-in_err-append
returns-in_err-append c =
    let p = err_from_is_err_and c.from_residual.result c.from_residual.ensures.1 in
    rw (p.1, p.2) (rest_refused _ c.requires.1 c.loop-i.i (omega (arith, c.declarations-n.ensures, c.loop-i-test.true, c.requires.3)) _ c.rows_of-rows.ensures.0 _ _ _ c.loop-i.invariant.1 _ c.strings_before.ensures _ c.strings_before-in-loop-i.ensures _ _ c.append.ensures _ c.in_err-append.was _)

pub loop-i-preserved : goal.loop-i-preserved
loop-i-preserved c = (search rules, rest_more _ c.requires.1 c.loop-i.i (omega (arith, c.declarations-n.ensures, c.loop-i-test.true, c.requires.3)) _ c.rows_of-rows.ensures.0 _ _ _ c.loop-i.invariant.1 _ c.strings_before.ensures _ c.strings_before-in-loop-i.ensures _ _ c.append.ensures _ c.in_ok-append.was)

pub counts-requires : goal.counts-requires
counts-requires c = counts_asks _ c.loop-i.invariant.1.well

pub shape_of-out : goal.shape_of-out
shape_of-out c = is_long _ c.loop-i.invariant.1.well ∙ sym (is_long _ c.requires.0)

pub returns : goal.returns
returns c = rest_end _ c.requires.1 c.loop-i.i (omega (arith, c.declarations-n.ensures, c.loop-i-test.false)) _ _ _ c.loop-i.invariant.1 _ c.counts.ensures
