-- `row::read::scale_at` meets its contract: eight bytes of the row.
-- Assumes nothing.
use Rattle.row.proofs.ReadLaws.{read_scale}
use Rattle.row.proofs.read.scale_at.Goals as goal

pub returns : goal.returns
returns c = read_scale _ c.args.i c.u64_at.ensures
