-- `ground::copy` meets its contract: what is left to store, stored, gives the whole store.
-- Assumes nothing.
use mathlib.Core.Path.{◌≡◌}
use Prim.Native.Nat.{◌+◌, ◌≤◌}
use lib.ListN.{length, drop}
use Rattle.ground.specs.Bytes.{store}
use Rattle.ground.proofs.copy.Given as goal

abbrev pub invariant-loop-i : goal.invariant-loop-i
invariant-loop-i l = (l.i ≤ l.n) × (length l.to ≡ length l.initial.to) × (store l.to (l.at + l.i) (drop l.i l.from) ≡ store l.initial.to l.at l.from)
