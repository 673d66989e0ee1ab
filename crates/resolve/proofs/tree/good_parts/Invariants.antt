-- `resolve::tree::good_parts` meets its contract: the answer for the rows that are left, behind n parts, is the answer.
-- Assumes nothing.
use mathlib.Core.Path.{◌≡◌}
use Prim.Native.Nat.{◌+◌, ◌-◌, ◌≤◌}
use Rattle.row.specs.Sets.{rows_from}
use Rattle.row.specs.Memory.{entry_at, row_at}
use Rattle.resolve.specs.Rules.{kinds_at, good_parts}
use Rattle.resolve.specs.Steps.{left_fit}
use Rattle.resolve.proofs.TreeLaws.{below}
use Rattle.resolve.proofs.tree.good_parts.Given as goal

abbrev pub invariant-loop-j : goal.invariant-loop-j
invariant-loop-j l = (l.n ≤ l.j) × (good_parts (row_at l.mem l.i) (rows_from l.mem (l.end - (l.i + 1)) (l.i + 1)) ≡ left_fit (entry_at l.mem l.i).kind l.n (kinds_at (l.depth + 1) (below l.mem l.end l.depth l.j)))
