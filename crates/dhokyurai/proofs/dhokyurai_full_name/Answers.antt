-- `dhokyurai::dhokyurai_full_name` meets its contract.
-- Assumes nothing.
use Rattle.answer.proofs.Laws.{number, first, second}
use Rattle.dhokyurai.proofs.Laws.{stored}
use borrow.Author.Rules.{rules}
use Rattle.dhokyurai.proofs.dhokyurai_full_name.Goals as goal

pub returns : goal.returns
returns c = (number c.named-n.ensures, stored _ c.copy.ensures c.full_name-name.ensures.0, first c.named-n.ensures, second c.named-n.ensures)
