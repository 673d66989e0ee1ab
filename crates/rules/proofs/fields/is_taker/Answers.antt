-- `rules::fields::is_taker` meets its contract.
-- Assumes nothing.
use mathlib.Core.Path.{◌∙◌, sym}
use Rattle.rules.proofs.fields.is_taker.Goals as goal

pub returns-then-is_object : goal.returns-then-is_object
returns-then-is_object c = rw (sym c.is_object.ensures ∙ c.if-is_object.true) c.takes.ensures

pub returns : goal.returns
returns c = rw (sym c.is_object.ensures ∙ c.if-is_object.false)
