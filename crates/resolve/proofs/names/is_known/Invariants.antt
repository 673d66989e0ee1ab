-- `resolve::names::is_known` meets its contract: the answer for the chain that is left is the answer.
-- Assumes nothing.
use mathlib.Core.Path.{◌≡◌}
use Prim.Native.Nat.{◌+◌, ◌≤◌}
use lib.ListN.{get_or}
use Rattle.chains.specs.Chains.{slot_of, on_chain}
use Rattle.chains.specs.Marks.{mark_of}
use Rattle.resolve.specs.Steps.{is_named_at}
use Rattle.resolve.proofs.names.is_known.Given as goal

abbrev pub invariant-loop-h : goal.invariant-loop-h
invariant-loop-h l = (l.left ≤ l.earlier + l.n) × (on_chain (is_named_at l.set l.earlier l.from l.start l.name) l.next l.left l.h ≡ on_chain (is_named_at l.set l.earlier l.from l.start l.name) l.next (l.earlier + l.n) (get_or l.first (slot_of (mark_of l.name) 0) 0))

abbrev pub decreases-loop-h : goal.decreases-loop-h
decreases-loop-h l = l.left
