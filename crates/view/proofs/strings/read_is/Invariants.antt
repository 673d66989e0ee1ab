-- `view::strings::read_is` meets its contract: what is left of the string against what is left of the word.
-- Assumes nothing.
use mathlib.Core.Path.{◌≡◌}
use Prim.Native.Nat.{◌+◌}
use lib.ListN.{length, drop}
use Rattle.ground.specs.Bytes.{same}
use Rattle.view.specs.Strings.{string_at, left_of, Within}
use Rattle.view.proofs.strings.read_is.Given as goal

abbrev pub invariant-loop-x : goal.invariant-loop-x
invariant-loop-x l = Within l.text l.c × (length l.word ≡ l.x-index + length (left_of l.text l.c)) × (same (left_of l.text l.c) (drop l.x-index l.word) ≡ same (string_at l.text l.at) l.word)
