-- `resolve::clash::is_met` meets its contract: the answer for the chain that is left is the answer.
-- Assumes nothing.
use mathlib.Core.Path.{◌≡◌}
use Prim.Native.Nat.{◌≤◌}
use lib.ListN.{get_or}
use Rattle.chains.specs.Chains.{on_chain}
use Rattle.row.specs.Memory.{entry_at}
use Rattle.resolve.specs.Steps.{meets_at}
use Rattle.resolve.proofs.clash.is_met.Given as goal

abbrev pub invariant-loop-h : goal.invariant-loop-h
invariant-loop-h l = (l.left ≤ l.j) × (on_chain (meets_at l.mem (entry_at l.mem l.i).kind l.depth l.i l.j) l.next l.left l.h ≡ on_chain (meets_at l.mem (entry_at l.mem l.i).kind l.depth l.i l.j) l.next l.j (get_or l.first l.slot 0))

abbrev pub decreases-loop-h : goal.decreases-loop-h
decreases-loop-h l = l.left
