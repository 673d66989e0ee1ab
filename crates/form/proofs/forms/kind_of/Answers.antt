-- `form::forms::kind_of` meets its contract: its length leaves two words.
-- Assumes nothing.
use mathlib.Core.Path.{◌∙◌, sym}
use native.Mathlib.Omega.{arith}
use Rattle.form.proofs.Words.{kind_of_five, kind_of_four, kind_of_others, kind_of_six}
use Rattle.form.proofs.forms.kind_of.Goals as goal

pub returns-in-4 : goal.returns-in-4
returns-in-4 c = c.either.ensures ∙ sym (kind_of_four _ c.in-4.is)

pub returns-in-5 : goal.returns-in-5
returns-in-5 c = c.either-in-5.ensures ∙ sym (kind_of_five _ c.in-5.is)

pub returns-in-6 : goal.returns-in-6
returns-in-6 c = c.either-in-6.ensures ∙ sym (kind_of_six _ c.in-6.is)

pub returns-in_default : goal.returns-in_default
returns-in_default c = c.either-in_default.ensures ∙ sym (kind_of_others _ (λ e. omega arith) (λ e. omega arith) (λ e. omega arith))
