-- `row::tidy::rows_end` meets its contract. The invariant: the rows left end where all end.
-- Assumes nothing.
use mathlib.Core.Path.{◌≡◌}
use Prim.Native.Nat.{◌+◌, ◌*◌, ◌-◌, ◌≤◌}
use lib.ListN.{drop}
use Rattle.row.specs.Layout.{string_limit, rows_start, row_size}
use Rattle.row.specs.Tidy.{tidy_end, rows_end}
use Rattle.row.proofs.tidy.rows_end.Given as goal

abbrev pub invariant-loop-i : goal.invariant-loop-i
invariant-loop-i l = (l.end ≤ string_limit) × (tidy_end (l.n - l.i) l.end (drop (rows_start + row_size * l.i) l.mem) ≡ rows_end l.mem l.n)
