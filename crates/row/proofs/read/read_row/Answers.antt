-- `row::read::read_row` meets its contract: each number is read from its own bytes.
-- Assumes nothing.
use Rattle.row.proofs.ReadLaws.{read_entry}
use Rattle.row.proofs.read.read_row.Goals as goal

pub returns : goal.returns
returns c = read_entry _ c.args.i _ _ _ _ _ _ c.of.ensures c.u16_at.ensures c.u16_at-2.ensures c.u64_at.ensures c.u64_at-2.ensures c.u64_at-3.ensures
