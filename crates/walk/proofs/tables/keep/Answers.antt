-- `walk::tables::keep` meets its contract.
-- Assumes nothing.
use mathlib.Core.Path.{sym}
use lib.Seq.{set_out}
use Rattle.walk.proofs.tables.keep.Goals as goal

pub returns-else-row-table : goal.returns-else-row-table
returns-else-row-table c = sym (set_out _ _ _ c.if-row-table.false)
