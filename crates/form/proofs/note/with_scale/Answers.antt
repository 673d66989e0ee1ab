-- `form::note::with_scale` meets its contract.
-- Assumes nothing.
use Rattle.form.proofs.Decimal.{scale_none, scale_other, scale_value}
use Rattle.form.proofs.note.with_scale.Goals as goal

pub returns-in_default : goal.returns-in_default
returns-in_default c = scale_none _ _ _ _ c.in_default.is c.compared.ensures

pub returns-in-Some-size_literal : goal.returns-in-Some-size_literal
returns-in-Some-size_literal c = scale_value _ _ _ _ c.in-Some.is c.size_literal.ensures c.in-Some-size_literal.is c.compared-in-Some-size_literal.ensures

pub returns-in-None : goal.returns-in-None
returns-in-None c = scale_other _ _ _ _ c.in-Some.is c.size_literal.ensures c.in-None.is c.noted.ensures
