-- `form::note::with_precision` meets its contract.
-- Assumes nothing.
use Rattle.form.proofs.Decimal.{precision_none, precision_other, precision_value}
use Rattle.form.proofs.note.with_precision.Goals as goal

pub returns-in_default : goal.returns-in_default
returns-in_default c = precision_none _ _ _ c.in_default.is c.noted.ensures

pub returns-in-Some-size_literal : goal.returns-in-Some-size_literal
returns-in-Some-size_literal c = precision_value _ _ _ c.in-Some.is c.size_literal.ensures c.in-Some-size_literal.is c.with_scale.ensures

pub returns-in-None : goal.returns-in-None
returns-in-None c = precision_other _ _ _ c.in-Some.is c.size_literal.ensures c.in-None.is c.noted-in-None.ensures
