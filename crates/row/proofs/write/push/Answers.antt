-- `row::write::push` meets its contract: a row whose default has no bytes.
-- Assumes nothing.
use Rattle.row.proofs.WriteLaws.{one_counted}
use Rattle.row.proofs.write.push.Goals as goal

pub returns : goal.returns
returns c = (one_counted _ _ _ _ c.push_both.ensures.0, c.push_both.ensures.1)
