-- `view::ends::literal_end` meets its contract.
-- Assumes nothing.
use Rattle.view.specs.Ends.{literal_end}
use lib.ListN.{length}
use Prim.Native.Nat.{◌≤◌, max}
use mathlib.Core.Path.{◌≡◌}
use Rattle.view.proofs.ends.literal_end.Given as goal

abbrev pub invariant-loop-p : goal.invariant-loop-p
invariant-loop-p l = (l.p ≤ max l.at (length l.text)) × (literal_end l.text l.p ≡ literal_end l.text l.at)
