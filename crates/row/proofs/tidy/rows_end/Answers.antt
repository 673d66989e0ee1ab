-- `row::tidy::rows_end` meets its contract. The invariant: the rows left end where all end.
-- Assumes nothing.
use mathlib.Core.Path.{sym, ◌∙◌}
use native.Mathlib.Omega.{arith}
use Rattle.row.proofs.TestLaws.{end_start, end_fits, end_turn, end_stop, end_end}
use Rattle.row.proofs.tidy.rows_end.Goals as goal

pub loop-i-init : goal.loop-i-init
loop-i-init c = (omega arith, end_start _ _)

pub returns-then-not-tidy_row : goal.returns-then-not-tidy_row
returns-then-not-tidy_row c =
    let e = end_stop _ _ c.loop-i.i _ _ c.loop-i.invariant.1 c.loop-i-test.true (sym c.if-not-tidy_row.true ∙ c.tidy_row.ensures) in
    omega arith

pub loop-i-preserved : goal.loop-i-preserved
loop-i-preserved c =
    let t = sym c.if-not-tidy_row.false ∙ c.tidy_row.ensures in
    (end_fits _ _ _ t c.strings_length-end.ensures.0, end_turn _ _ c.loop-i.i _ _ c.loop-i.invariant.1 c.loop-i-test.true t _ c.strings_length-end.ensures.0)

pub returns : goal.returns
returns c = (end_end _ _ c.loop-i.i _ _ c.loop-i.invariant.1 c.loop-i-test.false, omega arith)
