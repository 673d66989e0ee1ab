-- `dhokyurai::numbers::of_value` meets its contract.
-- Assumes nothing.
use mathlib.Core.Path.{sym, ap, ◌∙◌}
use Rattle.answer.specs.Answers.{numbers_of_value}
use Rattle.dhokyurai.proofs.numbers.of_value.Goals as goal

pub returns-in-Err : goal.returns-in-Err
returns-in-Err c = c.refused.ensures ∙ sym (ap numbers_of_value c.in-Err.is)

pub returns-in-Ok : goal.returns-in-Ok
returns-in-Ok c = c.accepted.ensures ∙ sym (ap numbers_of_value c.in-Ok.is)
