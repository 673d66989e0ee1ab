-- `scan_run::scan_all` meets its contract: the text so far fits its buffer.
-- Assumes nothing.
use Prim.Native.Nat.{◌≤◌}
use lib.ListN.{length}
use Rattle.scan_run.proofs.scan_all.Given as goal

abbrev pub invariant-loop : goal.invariant-loop
invariant-loop l = l.line.n ≤ length l.text
