-- `schema::definitions::put_checked_symbols` meets its contract.
-- Assumes nothing.
use Rattle.std.proofs.lemmas.Result.{err_from_is_err_and}
use Rattle.schema.proofs.Headed.{symbols_none, symbols_bad, default_bad, symbols_fine}
use Rattle.schema.proofs.definitions.put_checked_symbols.Goals as goal

pub returns-in_default : goal.returns-in_default
returns-in_default c = symbols_none _ _ _ _ c.as_array.ensures c.in_default.is

pub returns-in_err-symbols_check : goal.returns-in_err-symbols_check
returns-in_err-symbols_check c =
    let p = err_from_is_err_and c.from_residual.result c.from_residual.ensures.1 in
    rw (p.1, p.2) (symbols_bad _ _ _ _ c.as_array.ensures c.in-Some.is c.symbols_check.ensures c.in_err-symbols_check.was)

pub returns-in_err-default_check : goal.returns-in_err-default_check
returns-in_err-default_check c =
    let p = err_from_is_err_and c.from_residual-in_err-default_check.result c.from_residual-in_err-default_check.ensures.1 in
    rw (p.1, p.2) (default_bad _ _ _ _ c.as_array.ensures c.in-Some.is c.symbols_check.ensures c.in_ok-symbols_check.was c.default_check.ensures c.in_err-default_check.was)

pub returns : goal.returns
returns c = symbols_fine _ _ _ _ c.as_array.ensures c.in-Some.is c.symbols_check.ensures c.in_ok-symbols_check.was c.default_check.ensures c.in_ok-default_check.was c.put_symbols.ensures
