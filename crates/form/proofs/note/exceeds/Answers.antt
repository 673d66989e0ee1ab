-- `form::note::exceeds` meets its contract.
-- Assumes nothing.
use Rattle.form.proofs.Decimal.{exceeds_bytes, exceeds_fixed}
use Rattle.form.proofs.note.exceeds.Goals as goal

pub returns-in-Bytes : goal.returns-in-Bytes
returns-in-Bytes c = exceeds_bytes _ c.in-Bytes.is

pub returns-in-Fixed : goal.returns-in-Fixed
returns-in-Fixed c = exceeds_fixed _ c.in-Fixed.is c.limit.ensures
