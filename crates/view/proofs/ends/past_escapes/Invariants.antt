-- `view::ends::past_escapes` meets its contract.
-- Assumes nothing.
use Rattle.view.specs.Ends.{closing_of}
use lib.ListN.{length}
use Prim.Native.Nat.{◌-◌}
use mathlib.Core.Path.{◌≡◌}
use Rattle.view.proofs.ends.past_escapes.Given as goal

abbrev pub invariant-loop-p : goal.invariant-loop-p
invariant-loop-p l = closing_of l.text 1 0 l.p ≡ closing_of l.text 1 0 l.at

abbrev pub decreases-loop-p : goal.decreases-loop-p
decreases-loop-p l = length l.text - l.p
