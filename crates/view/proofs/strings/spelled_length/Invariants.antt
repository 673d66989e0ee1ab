-- `view::strings::spelled_length` meets its contract: as many bytes are read as are not left.
-- Assumes nothing.
use mathlib.Core.Path.{◌≡◌}
use Prim.Native.Nat.{◌+◌}
use lib.ListN.{length}
use Rattle.view.specs.Strings.{string_at, left_of, Within}
use Rattle.view.proofs.strings.spelled_length.Given as goal

abbrev pub invariant-loop-next : goal.invariant-loop-next
invariant-loop-next l = Within l.text l.c × (l.n + length (left_of l.text l.c) ≡ length (string_at l.text l.at))

abbrev pub decreases-loop-next : goal.decreases-loop-next
decreases-loop-next l = length (left_of l.text l.c)
