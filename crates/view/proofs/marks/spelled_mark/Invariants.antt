-- `view::marks::spelled_mark` meets its contract: the mark of what is left, from the number so far on, is the whole mark.
-- Assumes nothing.
use mathlib.Core.Path.{◌≡◌}
use lib.ListN.{length}
use Rattle.view.specs.Strings.{string_at, left_of, Within}
use Rattle.view.specs.Marks.{mark_from, mark_of, Held}
use Rattle.view.proofs.marks.spelled_mark.Given as goal

abbrev pub invariant-loop-b : goal.invariant-loop-b
invariant-loop-b l = Within l.text l.c × Held l.m × (mark_from l.m (left_of l.text l.c) ≡ mark_of (string_at l.text l.at))

abbrev pub decreases-loop-b : goal.decreases-loop-b
decreases-loop-b l = length (left_of l.text l.c)
