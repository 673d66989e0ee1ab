-- `values::shapes::is_object` meets its contract.
-- Assumes nothing.
use Rattle.values.specs.Values.{is_object}
use Rattle.values.proofs.shapes.is_object.Goals as goal

pub returns : goal.returns
unfolding is_object
returns c = rw c.byte_at.ensures
