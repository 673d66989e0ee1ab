-- `values::shapes::is_null` meets its contract.
-- Assumes nothing.
use Rattle.values.specs.Values.{is_null}
use Rattle.values.proofs.shapes.is_null.Goals as goal

pub returns : goal.returns
unfolding is_null
returns c = rw c.byte_at.ensures
