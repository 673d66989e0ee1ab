-- `view::table::note` meets its contract.
-- Assumes nothing.
use mathlib.Core.Path.{sym}
use lib.Seq.{set_out}
use Rattle.view.proofs.table.note.Goals as goal

pub returns-else-at-ends : goal.returns-else-at-ends
returns-else-at-ends c = sym (set_out _ _ _ c.if-at-ends.false)
