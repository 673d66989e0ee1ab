-- `schema::names::put` meets its contract.
-- Assumes nothing.
use Rattle.schema.proofs.Leaves.{put_row}
use Rattle.schema.proofs.names.put.Goals as goal

pub returns : goal.returns
returns c = (c.push.ensures.0, put_row _ _ _ _ _ _ _ _ c.entry-row.ensures c.push.ensures.1)
