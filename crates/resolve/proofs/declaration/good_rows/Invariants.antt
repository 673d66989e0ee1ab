-- `resolve::declaration::good_rows` meets its contract: the answer for the rows that are left is the answer.
-- Assumes nothing.
use mathlib.Core.Path.{◌≡◌}
use Prim.Native.Nat.{◌-◌}
use Rattle.row.specs.Sets.{rows_from}
use Rattle.resolve.specs.Rules.{good_rows}
use Rattle.resolve.specs.Steps.{Sized}
use Rattle.resolve.proofs.declaration.good_rows.Given as goal

abbrev pub invariant-loop-i : goal.invariant-loop-i
invariant-loop-i l = Sized l.first l.next × (good_rows (rows_from l.mem (l.end - l.start) l.start) ≡ good_rows (rows_from l.mem (l.end - l.i) l.i))
