-- `rules::symbols::symbol` meets its contract.
-- Assumes nothing.
use Rattle.std.proofs.lemmas.Result.{err_from_is_err_and}
use Rattle.rules.proofs.Listed.{symbol_bad, symbol_next}
use Rattle.rules.specs.Unions.{before}
use Rattle.view.specs.Elements.{elements}
use Rattle.rules.proofs.symbols.symbol.Goals as goal

pub enter_symbol-twice-requires : goal.enter_symbol-twice-requires
enter_symbol-twice-requires c = (c.requires.1, c.requires.2, c.requires.3)

pub returns-in_err-simple_check : goal.returns-in_err-simple_check
returns-in_err-simple_check c =
    let p = err_from_is_err_and c.from_residual.result c.from_residual.ensures.1 in
    rw (p.1, p.2) ((symbol_bad c.args.text.now (before c.args.at (elements c.args.text.now c.args.array)) c.args.at c.simple_check.ensures c.in_err-simple_check.was, c.enter_symbol-twice.ensures.1))

pub returns : goal.returns
returns c = (symbol_next c.args.text.now (before c.args.at (elements c.args.text.now c.args.array)) c.args.at c.simple_check.ensures c.in_ok-simple_check.was c.enter_symbol-twice.ensures.0 c.must.ensures, c.enter_symbol-twice.ensures.1)
