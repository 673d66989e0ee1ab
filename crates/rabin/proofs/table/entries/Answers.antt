-- `rabin::table::entries` meets its contract: the table that the rule gives is worked out and compared with the constant, all entries at once.
-- Assumes nothing.
use mathlib.Core.Path.{refl}
use Rattle.rabin.specs.Rabin.{bit_step, bit_steps, entry_of}
use Rattle.rabin.specs.Table.{entries_from, table}
use Rattle.rabin.proofs.table.entries.Goals as goal

pub returns : goal.returns
unfolding table entries_from entry_of bit_steps bit_step
returns c = refl
