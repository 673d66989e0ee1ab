-- `view::strings::read_same` meets its contract: what is left of the one against what is left of the other.
-- Assumes nothing.
use mathlib.Core.Path.{◌≡◌}
use lib.ListN.{length}
use Rattle.ground.specs.Bytes.{same}
use Rattle.view.specs.Strings.{string_at, left_of, Within}
use Rattle.view.proofs.strings.read_same.Given as goal

abbrev pub invariant-loop-a : goal.invariant-loop-a
invariant-loop-a l = Within l.text l.c × Within l.text l.d × (length (left_of l.text l.c) ≡ length (left_of l.text l.d)) × (same (left_of l.text l.c) (left_of l.text l.d) ≡ same (string_at l.text l.one) (string_at l.text l.other))

abbrev pub decreases-loop-a : goal.decreases-loop-a
decreases-loop-a l = length (left_of l.text l.c)
