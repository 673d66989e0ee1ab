-- `resolve::names::first_fault` meets its contract: the first fault of the rows that are left, behind those that have passed, is the first fault.
-- Assumes nothing.
use mathlib.Core.Path.{◌≡◌}
use mathlib.Core.List.{◌++◌}
use Prim.Native.Nat.{◌+◌, ◌-◌}
use Rattle.row.specs.Sets.{rows_from}
use Rattle.resolve.specs.Resolve.{fault_in}
use Rattle.resolve.specs.Steps.{Sized, KeepsNames}
use Rattle.resolve.proofs.names.first_fault.Given as goal

abbrev pub invariant-loop-i : goal.invariant-loop-i
invariant-loop-i l = Sized l.first l.next × KeepsNames l.set l.earlier l.from l.start l.first l.next (l.earlier + l.i)
    × (fault_in (rows_from l.set l.earlier 0) (rows_from l.from l.n l.start) ≡ fault_in (rows_from l.set l.earlier 0 ++ rows_from l.from l.i l.start) (rows_from l.from (l.n - l.i) (l.start + l.i)))
