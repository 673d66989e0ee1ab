-- `dhokyurai::dhokyurai_canonical` meets its contract.
-- Assumes nothing.
use mathlib.Core.Path.{◌∙◌}
use Rattle.answer.proofs.Laws.{number, first, second}
use borrow.Author.Rules.{rules}
use Rattle.dhokyurai.proofs.dhokyurai_canonical.Goals as goal

pub returns : goal.returns
returns c = let e = c.of_value-n.ensures ∙ c.canonical.ensures.0 in (number e, c.canonical.ensures.1, first e, second e)
