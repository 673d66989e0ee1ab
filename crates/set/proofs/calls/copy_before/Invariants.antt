-- `set::calls::copy_before` meets its contract.
-- Assumes nothing.
use Prim.Native.Nat.{◌≤◌}
use Rattle.set.proofs.Rests.{Copied}
use Rattle.set.proofs.calls.copy_before.Given as goal

abbrev pub invariant-loop-i : goal.invariant-loop-i
invariant-loop-i l = (l.i ≤ l.place) × Copied l.mem l.i l.out l.sum
