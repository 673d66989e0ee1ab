-- `form::forms::other_form` meets its contract.
-- Assumes nothing.
use mathlib.Core.Path.{◌∙◌, sym}
use Rattle.form.proofs.forms.other_form.Goals as goal

pub returns-then-is_text : goal.returns-then-is_text
returns-then-is_text c = rw (sym c.is_text.ensures ∙ c.if-is_text.true) c.bare.ensures

pub returns-then-is_array : goal.returns-then-is_array
returns-then-is_array c = rw (sym c.is_text.ensures ∙ c.if-is_text.false, sym c.is_array.ensures ∙ c.if-is_array.true) c.bare-then-is_array.ensures

pub returns : goal.returns
returns c = rw (sym c.is_text.ensures ∙ c.if-is_text.false, sym c.is_array.ensures ∙ c.if-is_array.false) c.wrong.ensures
