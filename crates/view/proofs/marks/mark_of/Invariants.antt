-- `view::marks::mark_of` meets its contract: the mark of what is left, from the number so far on, is the whole mark.
-- Assumes nothing.
use mathlib.Core.Path.{◌≡◌}
use Prim.Native.Nat.{◌*◌}
use lib.ListN.{drop}
use Rattle.view.specs.Marks.{marking, mark_from, mark_of}
use Rattle.view.proofs.marks.mark_of.Given as goal

abbrev pub invariant-loop-i : goal.invariant-loop-i
invariant-loop-i l = mark_from (marking l.h 0 0) (drop (3 * l.i) l.s) ≡ mark_of l.s
