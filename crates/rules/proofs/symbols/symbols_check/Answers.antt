-- `rules::symbols::symbols_check` meets its contract: the strings first, then each symbol.
-- Assumes nothing.
use Rattle.std.proofs.lemmas.Result.{err_from_is_err_and}
use Rattle.rules.proofs.Listed.{symbols_not, symbols_each}
use Rattle.rules.proofs.symbols.symbols_check.Goals as goal

pub returns-in_err-all_strings : goal.returns-in_err-all_strings
returns-in_err-all_strings c =
    let p = err_from_is_err_and c.from_residual.result c.from_residual.ensures.1 in
    rw (p.1, p.2) (symbols_not _ _ c.all_strings.ensures c.in_err-all_strings.was)

pub returns : goal.returns
returns c = symbols_each _ _ c.all_strings.ensures c.in_ok-all_strings.was c.each_new.ensures
