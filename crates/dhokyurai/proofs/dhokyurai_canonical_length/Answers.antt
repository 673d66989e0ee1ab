-- `dhokyurai::dhokyurai_canonical_length` meets its contract.
-- Assumes nothing.
use mathlib.Core.Path.{◌∙◌}
use Rattle.answer.proofs.Laws.{number, first, second}
use borrow.Author.Rules.{rules}
use Rattle.dhokyurai.proofs.dhokyurai_canonical_length.Goals as goal

pub returns : goal.returns
returns c = let e = c.of_value-n.ensures ∙ c.canonical_length.ensures in (number e, first e, second e)
