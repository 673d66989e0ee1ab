-- `dhokyurai::numbers::of_offsets` meets its contract.
-- Assumes nothing.
use mathlib.Core.Path.{sym, ap, ◌∙◌}
use Rattle.summary.specs.Calls.{numbers_of_offsets}
use borrow.Author.Rules.{rules}
use Rattle.dhokyurai.proofs.numbers.of_offsets.Goals as goal

pub returns-in-Err : goal.returns-in-Err
returns-in-Err c = c.refused.ensures ∙ sym (ap numbers_of_offsets c.in-Err.is)

pub returns-in-Ok : goal.returns-in-Ok
returns-in-Ok c = sym (ap numbers_of_offsets c.in-Ok.is)
