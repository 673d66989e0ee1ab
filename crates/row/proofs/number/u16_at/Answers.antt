-- `row::number::u16_at` meets its contract: two bytes, the lower first.
-- Assumes nothing.
use Rattle.row.proofs.NumberLaws.{two_read}
use Rattle.row.proofs.number.u16_at.Goals as goal

pub returns : goal.returns
returns c = two_read _ c.unwrap.result _ _ (rw c.unwrap.ensures at c.try_into.ensures.1) c.from_le_bytes.ensures
