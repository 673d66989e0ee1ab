-- `dhokyurai::named` meets its contract.
-- Assumes nothing.
use mathlib.Core.Path.{◌∙◌}
use Rattle.dhokyurai.proofs.Laws.{named_is}
use borrow.Author.Rules.{rules}
use Rattle.dhokyurai.proofs.named.Goals as goal

pub returns-then-name-eq0 : goal.returns-then-name-eq0
returns-then-name-eq0 c = c.of_value.ensures ∙ c.naming_of.ensures

pub returns : goal.returns
returns c = c.accepted.ensures ∙ named_is _ _ _ _ c.requires c.if-name-eq0.false
