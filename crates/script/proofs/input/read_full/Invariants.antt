-- `script::input::read_full` meets its contract.
-- Assumes nothing.
use Prim.Native.Nat.{◌-◌, ◌≤◌}
use lib.ListN.{length}
use Rattle.script.proofs.input.read_full.Given as goal

abbrev pub invariant-loop-to : goal.invariant-loop-to
invariant-loop-to g l = l.to ≤ length l.buf

abbrev pub decreases-loop-to : goal.decreases-loop-to
decreases-loop-to g l = length l.buf - l.to
