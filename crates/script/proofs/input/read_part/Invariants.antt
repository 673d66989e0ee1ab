-- `script::input::read_part` meets its contract.
-- Assumes nothing.
use Prim.Native.Nat.{◌-◌, ◌≤◌}
use lib.ListN.{length}
use Rattle.script.proofs.input.read_part.Given as goal

abbrev pub invariant-loop-to : goal.invariant-loop-to
invariant-loop-to l = l.to ≤ length l.buf

abbrev pub decreases-loop-to : goal.decreases-loop-to
decreases-loop-to l = length l.buf - l.to
