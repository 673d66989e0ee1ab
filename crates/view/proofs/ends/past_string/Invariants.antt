-- `view::ends::past_string` meets its contract.
-- Assumes nothing.
use Rattle.view.specs.Ends.{closing_of}
use lib.ListN.{length}
use Prim.Native.Nat.{◌≤◌, max}
use mathlib.Core.Path.{◌≡◌}
use Rattle.view.proofs.ends.past_string.Given as goal

abbrev pub invariant-loop-p : goal.invariant-loop-p
invariant-loop-p l = (l.p ≤ max l.at (length l.text)) × (closing_of l.text 1 0 l.p ≡ closing_of l.text 1 0 l.at)
