-- `row::write::write` meets its contract: the row, then its strings.
-- Assumes nothing.
use Rattle.row.proofs.WriteLaws.{all_written}
use Rattle.row.proofs.write.write.Goals as goal

pub returns : goal.returns
returns c = all_written _ _ _ _ c.args.counts _ c.write_row.ensures c.copy.ensures c.copy-2.ensures
