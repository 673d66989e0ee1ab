-- `row::read::precision_at` meets its contract: eight bytes of the row.
-- Assumes nothing.
use Rattle.row.proofs.ReadLaws.{read_precision}
use Rattle.row.proofs.read.precision_at.Goals as goal

pub returns : goal.returns
returns c = read_precision _ c.args.i c.u64_at.ensures
