-- `dhokyurai::numbers::of_print` meets its contract.
-- Assumes nothing.
use mathlib.Core.Path.{sym, ap, ◌∙◌}
use Rattle.canonical.specs.Calls.{numbers_of_print}
use Rattle.std.specs.Prelude.{ℤ}
use Rattle.answer.specs.Answers.{Answer}
use borrow.Author.Rules.{rules}
use Rattle.dhokyurai.proofs.numbers.of_print.Goals as goal

pub returns-in-Err : goal.returns-in-Err
returns-in-Err c = c.refused.ensures ∙ sym (ap (λ (p : Answer ℤ). (numbers_of_print p).0) c.in-Err.is)

pub returns-in-Ok : goal.returns-in-Ok
returns-in-Ok c = c.accepted.ensures ∙ sym (ap (λ (p : Answer ℤ). (numbers_of_print p).0) c.in-Ok.is)
