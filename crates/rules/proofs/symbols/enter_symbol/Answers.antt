-- `rules::symbols::enter_symbol` meets its contract: a string whose mark is new is none of those entered.
-- Assumes nothing.
use mathlib.Core.Path.{◌∙◌, ap}
use Rattle.seen.specs.Seen.{entered}
use Rattle.rules.proofs.Entering.{unmarked}
use Rattle.rules.proofs.symbols.enter_symbol.Goals as goal

pub enter-requires : goal.enter-requires
enter-requires c = c.requires.1

pub returns-then-enter : goal.returns-then-enter
returns-then-enter c = (c.is_among.ensures, c.enter.ensures.1 ∙ ap (entered c.args.table.now) c.mark-own.ensures)

pub returns : goal.returns
returns c = (unmarked _ _ c.requires.2 c.mark-own.ensures c.enter.ensures.0 c.if-enter.false, c.enter.ensures.1 ∙ ap (entered c.args.table.now) c.mark-own.ensures)
