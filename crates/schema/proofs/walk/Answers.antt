-- `schema::walk` meets its contract.
-- Assumes nothing.
use Rattle.schema.proofs.Nested.{rows_walked}
use Rattle.schema.proofs.walk.Goals as goal

pub returns : goal.returns
returns c = rows_walked _ c.value_start-at.ensures c.none-none.ensures c.put_schema.ensures
