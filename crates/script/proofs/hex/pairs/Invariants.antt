-- `script::hex::pairs` meets its contract: the bytes of the pairs that are left, stored, give the whole store.
-- Assumes nothing.
use mathlib.Core.Path.{◌≡◌}
use Prim.Native.Nat.{◌*◌}
use lib.ListN.{drop}
use Rattle.ground.specs.Bytes.{store}
use Rattle.script.specs.Hex.{bytes_of}
use Rattle.script.proofs.hex.pairs.Given as goal

abbrev pub invariant-loop-n : goal.invariant-loop-n
invariant-loop-n l = store l.out l.n (bytes_of (drop (2 * l.n) l.word)) ≡ store l.initial.out 0 (bytes_of l.word)
