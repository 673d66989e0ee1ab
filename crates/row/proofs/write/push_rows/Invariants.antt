-- `row::write::push_rows` meets its contract. The invariant: the rows left, pushed, give what all of them give.
-- Assumes nothing.
use mathlib.Core.Path.{◌≡◌}
use Prim.Native.Nat.{◌+◌, ◌-◌}
use Rattle.row.specs.Sets.{rows_from}
use Rattle.row.specs.Memory.{counted_all, pushed_all}
use Rattle.row.proofs.write.push_rows.Given as goal

abbrev pub invariant-loop-i : goal.invariant-loop-i
invariant-loop-i l =
    (counted_all l.sum (rows_from l.from (l.start + l.n - l.i) l.i) ≡ counted_all l.initial.sum (rows_from l.from l.n l.start))
    × (pushed_all l.mem l.sum (rows_from l.from (l.start + l.n - l.i) l.i) ≡ pushed_all l.initial.mem l.initial.sum (rows_from l.from l.n l.start))
