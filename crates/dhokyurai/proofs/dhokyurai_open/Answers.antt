-- `dhokyurai::dhokyurai_open` meets its contract.
-- Assumes nothing.
use mathlib.Core.Path.{◌∙◌}
use Rattle.answer.proofs.Laws.{number, first, second, third}
use borrow.Author.Rules.{rules}
use Rattle.dhokyurai.proofs.dhokyurai_open.Goals as goal

pub returns : goal.returns
returns c = let e = c.of-n.ensures ∙ c.open.ensures.0 in (number e, c.open.ensures.1, first e, second e, third e)
