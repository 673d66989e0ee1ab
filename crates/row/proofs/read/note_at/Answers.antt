-- `row::read::note_at` meets its contract: one byte of the row.
-- Assumes nothing.
use Rattle.row.proofs.ReadLaws.{read_note}
use Rattle.row.proofs.read.note_at.Goals as goal

pub returns : goal.returns
returns c = read_note _ c.args.i
