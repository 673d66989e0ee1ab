-- `view::table::note_string` meets its contract.
-- Assumes nothing.
use Rattle.view.proofs.Filling.{plain_closing, plain_noted}
use Rattle.view.proofs.table.note_string.Goals as goal

pub returns-then-byte_at-eq34 : goal.returns-then-byte_at-eq34
returns-then-byte_at-eq34 c = (plain_closing _ _ _ c.requires.2 c.plain_end-e.ensures c.byte_at.ensures c.if-byte_at-eq34.true, plain_noted _ _ _ c.requires.2 c.plain_end-e.ensures c.byte_at.ensures c.if-byte_at-eq34.true c.requires.3 c.note.ensures)
