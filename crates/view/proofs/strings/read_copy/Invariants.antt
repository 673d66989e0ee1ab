-- `view::strings::read_copy` meets its contract: what is left, stored, gives the whole store.
-- Assumes nothing.
use mathlib.Core.Path.{◌≡◌}
use Prim.Native.Nat.{◌+◌}
use lib.ListN.{length}
use Rattle.ground.specs.Bytes.{store}
use Rattle.view.specs.Strings.{string_at, left_of, Within}
use Rattle.view.proofs.strings.read_copy.Given as goal

abbrev pub invariant-loop-b : goal.invariant-loop-b
invariant-loop-b l = Within l.text l.c × (length l.out ≡ length l.initial.out) × (l.i + length (left_of l.text l.c) ≡ length (string_at l.text l.at)) × (store l.out l.i (left_of l.text l.c) ≡ store l.initial.out 0 (string_at l.text l.at))

abbrev pub decreases-loop-b : goal.decreases-loop-b
decreases-loop-b l = length (left_of l.text l.c)
