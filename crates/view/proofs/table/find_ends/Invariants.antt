-- `view::table::find_ends` meets its contract.
-- Assumes nothing.
use mathlib.Core.Path.{◌≡◌}
use Prim.Native.Nat.{◌-◌}
use lib.ListN.{length}
use Rattle.view.specs.Known.{Known, Stack}
use Rattle.view.proofs.table.find_ends.Given as goal

abbrev pub invariant-loop-p : goal.invariant-loop-p
invariant-loop-p l = (length l.ends ≡ length l.initial.ends) × Stack l.text l.kept l.depth l.p × Known l.text l.ends

abbrev pub decreases-loop-p : goal.decreases-loop-p
decreases-loop-p l = length l.text - l.p
