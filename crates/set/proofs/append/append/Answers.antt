-- `set::append::append` meets its contract.
-- Assumes nothing.
use Rattle.std.proofs.lemmas.Result.{err_from_is_err_and}
use Rattle.set.proofs.Places.{counts_asks}
use Rattle.set.proofs.Appends.{ended_by}
use Rattle.set.proofs.Accepts.{append_refused, misfit_asks, append_misfit, append_done}
use native.Mathlib.Omega.{arith}
use Rattle.set.proofs.append.append.Goals as goal

pub counts-sum-requires : goal.counts-sum-requires
counts-sum-requires c = counts_asks _ c.requires.0

pub misfit-requires : goal.misfit-requires
misfit-requires c = let d = misfit_asks _ _ _ _ _ _ _ c.join.ensures c.requires.0 c.requires.1 _ c.counts-sum.ensures c.in_ok-c.was c.requires.2 in (d.0, omega (arith, d.1))

pub returns-in_err-c : goal.returns-in_err-c
returns-in_err-c c =
    let p = err_from_is_err_and c.from_residual.result c.from_residual.ensures.1 in
    rw (p.1, p.2) (λ rows d. ended_by c.in_err-c.was (append_refused _ _ _ _ _ _ _ c.join.ensures c.in_err-c.was rows d))

pub returns-in-Err : goal.returns-in-Err
returns-in-Err c = λ rows d. append_misfit _ _ _ _ _ _ _ c.join.ensures c.requires.0 c.requires.1 _ c.counts-sum.ensures c.in_ok-c.was _ c.misfit.ensures c.in-Err.is rows d c.placed.ensures

pub returns-in-Ok : goal.returns-in-Ok
returns-in-Ok c = append_done _ _ _ _ _ _ _ c.join.ensures c.requires.0 c.requires.1 _ c.counts-sum.ensures c.in_ok-c.was _ c.misfit.ensures c.in-Ok.is
