-- `row::number::u64_at` meets its contract: eight bytes, the lowest first.
-- Assumes nothing.
use Rattle.row.proofs.NumberLaws.{eight_read}
use Rattle.row.proofs.number.u64_at.Goals as goal

pub returns : goal.returns
returns c = eight_read _ c.unwrap.result _ _ (rw c.unwrap.ensures at c.try_into.ensures.1) c.from_le_bytes.ensures
