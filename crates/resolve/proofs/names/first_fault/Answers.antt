-- `resolve::names::first_fault` meets its contract: the first fault of the rows that are left, behind those that have passed, is the first fault.
-- Assumes nothing.
use native.Mathlib.Omega.{arith}
use Rattle.std.proofs.lemmas.Result.{err_from_is_err_and}
use Rattle.row.specs.Sets.{rows_from}
use Rattle.resolve.proofs.LineLaws.{line_begin, line_next, sized_with}
use Rattle.resolve.proofs.ResolveLaws.{fault_start, fault_hit, fault_more, fault_end}
use borrow.Author.Rules.{rules}
use Rattle.resolve.proofs.names.first_fault.Goals as goal

pub enter_rows-requires : goal.enter_rows-requires
enter_rows-requires c = (search rules, search rules, record { firsts = search rules; nexts = search rules })

pub loop-i-init : goal.loop-i-init
loop-i-init c = (c.enter_rows.ensures.0, line_begin _ _ _ _ c.enter_rows.ensures.1, fault_start _ _ _ _)

pub fault_of-requires : goal.fault_of-requires
fault_of-requires c = (search rules, search rules, search rules, search rules, c.loop-i.invariant.0, c.loop-i.invariant.1)

pub returns-in_err-fault_of : goal.returns-in_err-fault_of
returns-in_err-fault_of c =
    let p = err_from_is_err_and c.from_residual.result c.from_residual.ensures.1 in
    rw (p.1, p.2) (fault_hit (rows_from c.args.set.now c.args.earlier 0) _ _ _ _ _ c.loop-i.invariant.2 c.loop-i-test.true _ _ c.fault_of.ensures c.in_err-fault_of.was)

pub loop-i-preserved : goal.loop-i-preserved
loop-i-preserved c = (sized_with _ _ c.loop-i.invariant.0 c.enter_row.ensures.0 c.enter_row.ensures.1, line_next _ _ _ _ _ c.loop-i.invariant.1 c.loop-i.invariant.0 (omega arith) c.enter_row.ensures.0 c.enter_row.ensures.1, fault_more (rows_from c.args.set.now c.args.earlier 0) _ _ _ _ _ c.loop-i.invariant.2 c.loop-i-test.true _ c.fault_of.ensures c.in_ok-fault_of.was)

pub returns : goal.returns
returns c = fault_end (rows_from c.args.set.now c.args.earlier 0) _ _ _ _ _ c.loop-i.invariant.2 c.loop-i-test.false
