-- `dhokyurai::dhokyurai_put` meets its contract.
-- Assumes nothing.
use mathlib.Core.Path.{◌∙◌}
use Rattle.answer.proofs.Laws.{number, first, second, third}
use borrow.Author.Rules.{rules}
use Rattle.dhokyurai.proofs.dhokyurai_put.Goals as goal

pub returns : goal.returns
returns c = let e = c.of-n.ensures ∙ c.put.ensures.0 in (number e, c.put.ensures.1, first e, second e, third e)
