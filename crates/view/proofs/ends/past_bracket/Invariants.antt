-- `view::ends::past_bracket` meets its contract.
-- Assumes nothing.
use Rattle.view.specs.Ends.{closing_of}
use lib.ListN.{length}
use Prim.Native.Nat.{◌-◌, ◌+◌, ◌<◌, ◌≤◌}
use mathlib.Core.Path.{◌≡◌}
use Rattle.view.proofs.ends.past_bracket.Given as goal

abbrev pub invariant-loop-p : goal.invariant-loop-p
invariant-loop-p l = (0 < l.d) × (l.d ≤ l.p + 1) × (closing_of l.text 0 l.d l.p ≡ closing_of l.text 0 1 l.at)

abbrev pub decreases-loop-p : goal.decreases-loop-p
decreases-loop-p l = length l.text - l.p
