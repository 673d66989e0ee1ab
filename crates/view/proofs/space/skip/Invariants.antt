-- `view::space::skip` meets its contract.
-- Assumes nothing.
use Rattle.view.specs.Values.{skip_of}
use lib.ListN.{length}
use Prim.Native.Nat.{◌≤◌, max}
use mathlib.Core.Path.{◌≡◌}
use Rattle.view.proofs.space.skip.Given as goal

abbrev pub invariant-loop-p : goal.invariant-loop-p
invariant-loop-p l = (l.p ≤ max l.at (length l.text)) × (skip_of l.text l.p ≡ skip_of l.text l.at)
