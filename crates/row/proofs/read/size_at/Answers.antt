-- `row::read::size_at` meets its contract: eight bytes of the row.
-- Assumes nothing.
use Rattle.row.proofs.ReadLaws.{read_size}
use Rattle.row.proofs.read.size_at.Goals as goal

pub returns : goal.returns
returns c = read_size _ c.args.i c.u64_at.ensures
