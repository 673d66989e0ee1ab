-- `schema::names::put_string` meets its contract.
-- Assumes nothing.
use Rattle.schema.proofs.Leaves.{put_string}
use Rattle.schema.proofs.names.put_string.Goals as goal

pub returns : goal.returns
returns c = put_string _ _ _ _ _ _ c.entry-row.ensures c.put_both.ensures
