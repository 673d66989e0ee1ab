-- `values::shapes::is_string` meets its contract.
-- Assumes nothing.
use Rattle.values.specs.Values.{is_string}
use Rattle.values.proofs.shapes.is_string.Goals as goal

pub returns : goal.returns
unfolding is_string
returns c = rw c.byte_at.ensures
