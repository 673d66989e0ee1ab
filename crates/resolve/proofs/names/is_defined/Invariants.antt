-- `resolve::names::is_defined` meets its contract: the answer for the rows that are left is the answer.
-- Assumes nothing.
use mathlib.Core.Path.{◌≡◌}
use Prim.Native.Nat.{◌+◌, ◌-◌}
use Rattle.row.specs.Sets.{rows_from}
use Rattle.resolve.specs.Resolve.{is_defined}
use Rattle.resolve.proofs.names.is_defined.Given as goal

abbrev pub invariant-loop-i : goal.invariant-loop-i
invariant-loop-i l = is_defined (rows_from l.mem l.n l.start) l.name ≡ is_defined (rows_from l.mem (l.start + l.n - l.i) l.i) l.name
