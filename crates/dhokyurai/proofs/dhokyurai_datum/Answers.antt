-- `dhokyurai::dhokyurai_datum` meets its contract.
-- Assumes nothing.
use mathlib.Core.Path.{◌∙◌}
use Rattle.answer.proofs.Laws.{number, first, second}
use borrow.Author.Rules.{rules}
use Rattle.dhokyurai.proofs.dhokyurai_datum.Goals as goal

pub returns : goal.returns
returns c = let e = c.of_offsets-n.ensures ∙ c.datum.ensures.0 in (number e, c.datum.ensures.1, first e, second e)
