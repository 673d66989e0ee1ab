-- `set::calls::settle` meets its contract.
-- Assumes nothing.
use Rattle.std.proofs.lemmas.Result.{err_from_is_err_and}
use Rattle.set.proofs.CallLaws.{settle_no, settle_done}
use Rattle.set.proofs.calls.settle.Goals as goal

pub returns-in_err-c : goal.returns-in_err-c
returns-in_err-c c =
    let p = err_from_is_err_and c.from_residual.result c.from_residual.ensures.1 in
    rw (p.1, p.2) (settle_no _ _ _ c.in_err-c.was)

pub returns : goal.returns
returns c = settle_done _ _ _ c.in_ok-c.was c.requires c.copy.ensures
