-- `set::calls::append_from` meets its contract.
-- Assumes nothing.
use Prim.Native.Nat.{◌≤◌}
use Rattle.row.specs.Sets.{decode}
use lib.ListN.{drop}
use Rattle.set.specs.Lists.{append_all}
use Rattle.set.proofs.Rests.{Left}
use Rattle.set.proofs.calls.append_from.Given as goal

abbrev pub invariant-loop-i : goal.invariant-loop-i
invariant-loop-i l = (l.i ≤ l.n) × Left (append_all (decode l.initial.out) (drop l.place (decode l.mem))) l.mem l.out l.start l.i
