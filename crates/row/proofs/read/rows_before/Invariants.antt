-- `row::read::rows_before` meets its contract. The invariant: the rows counted and those of the places left are all rows before the place.
-- Assumes nothing.
use mathlib.Core.Path.{◌≡◌}
use Prim.Native.Nat.{◌+◌, ◌*◌, ◌-◌, ◌≤◌}
use lib.ListN.{drop}
use Rattle.row.specs.Sets.{sum, words_of}
use Rattle.row.specs.Memory.{rows_before}
use Rattle.row.proofs.read.rows_before.Given as goal

abbrev pub invariant-loop-i : goal.invariant-loop-i
invariant-loop-i l = (l.sum ≤ 65535 * l.i) × (l.sum + sum (words_of (l.place - l.i) (drop (2 + 2 * l.i) l.mem)) ≡ rows_before l.mem l.place)
