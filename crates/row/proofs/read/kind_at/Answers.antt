-- `row::read::kind_at` meets its contract: the first byte of the row says the kind.
-- Assumes nothing.
use Rattle.row.proofs.ReadLaws.{read_kind}
use Rattle.row.proofs.read.kind_at.Goals as goal

pub returns : goal.returns
returns c = read_kind _ c.args.i _ c.of.ensures
