-- `values::shapes::narrow_size` meets its contract: what is left of the string is narrow where all of it is, and those that were counted and those that are
-- left are all.
-- Assumes nothing.
use lib.ListN.{length}
use Prim.Native.Nat.{◌+◌}
use mathlib.Core.Path.{◌≡◌}
use Rattle.values.specs.Values.{characters, is_narrow}
use Rattle.view.specs.Strings.{string_at, left_of, Within}
use Rattle.values.proofs.shapes.narrow_size.Given as goal

abbrev pub invariant-loop-b : goal.invariant-loop-b
invariant-loop-b l = Within l.text l.c × (is_narrow (left_of l.text l.c) ≡ is_narrow (string_at l.text l.at)) × (l.n + characters (left_of l.text l.c) ≡ characters (string_at l.text l.at))

abbrev pub decreases-loop-b : goal.decreases-loop-b
decreases-loop-b l = length (left_of l.text l.c)
