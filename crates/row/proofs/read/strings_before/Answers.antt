-- `row::read::strings_before` meets its contract: no rows have no bytes, and others end where the last one's strings end.
-- Assumes nothing.
use Rattle.row.proofs.ReadLaws.{no_rows, some_rows}
use Rattle.row.proofs.read.strings_before.Goals as goal

pub returns-then-n-eq0 : goal.returns-then-n-eq0
returns-then-n-eq0 c = no_rows _ _ c.if-n-eq0.true

pub returns : goal.returns
returns c = some_rows _ _ _ _ c.if-n-eq0.false c.text_start.ensures.0 c.strings_length.ensures.0
