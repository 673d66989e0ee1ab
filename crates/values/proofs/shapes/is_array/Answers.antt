-- `values::shapes::is_array` meets its contract.
-- Assumes nothing.
use Rattle.values.specs.Values.{is_array}
use Rattle.values.proofs.shapes.is_array.Goals as goal

pub returns : goal.returns
unfolding is_array
returns c = rw c.byte_at.ensures
