-- `form::note::is_decimal` meets its contract.
-- Assumes nothing.
use Rattle.form.proofs.Decimal.{logical_type_lem, plain_type}
use Rattle.form.proofs.note.is_decimal.Goals as goal

pub returns-in_default : goal.returns-in_default
returns-in_default c = plain_type _ _ c.as_text.ensures c.in_default.is

pub returns : goal.returns
returns c = logical_type_lem _ _ c.as_text.ensures c.in-Some.is c.string_is.ensures
