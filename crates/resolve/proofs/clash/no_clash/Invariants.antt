-- `resolve::clash::no_clash` meets its contract: the answer for the rows that are left, behind those that have passed, is the answer.
-- Assumes nothing.
use mathlib.Core.Path.{◌≡◌}
use Prim.Native.Nat.{◌+◌, ◌-◌}
use Rattle.row.specs.Sets.{rows_from}
use Rattle.row.specs.Memory.{entry_at, row_at}
use Rattle.resolve.specs.Rules.{clash, no_clash}
use Rattle.resolve.specs.Steps.{none_met, Sized, KeepsUnder}
use Rattle.resolve.proofs.TreeLaws.{below}
use Rattle.resolve.proofs.clash.no_clash.Given as goal

abbrev pub invariant-loop-j : goal.invariant-loop-j
invariant-loop-j l = Sized l.first l.next × KeepsUnder l.mem (entry_at l.mem l.i).kind l.depth l.i l.first l.next l.j
    × (no_clash (row_at l.mem l.i) (rows_from l.mem (l.end - (l.i + 1)) (l.i + 1)) ≡ none_met (clash (entry_at l.mem l.i).kind l.depth) (rows_from l.mem (l.j - (l.i + 1)) (l.i + 1)) (below l.mem l.end l.depth l.j))
