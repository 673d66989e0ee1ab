-- No bytes, by their length and by their list.
-- Assumes nothing.
use mathlib.Core.Path.{◌≡◌, refl, sym}
use mathlib.Core.Bool.{Bool, true, false, ◌&&◌}
use mathlib.Core.List.{List, [], ◌∷◌}
use Prim.Native.Nat.{ℕ, ◌^◌, ◌<◌, ◌≤◌}
use native.Mathlib.Omega.{arith}
use lib.Dec.{eqb, leb, eqb-suc-zero}
use lib.ListN.{length}
use borrow.Author.Tests.{eq-eqb, ne_eqb, le-leb, lt-ltb}
use Rattle.name.specs.Name.{is_empty}
use Rattle.resolve.specs.Rules.{good_decimal}

pub no_bytes : (s : List ℕ) → eqb (length s) 0 ≡ is_empty s
unfolding is_empty
no_bytes [] = refl
no_bytes (b ∷ s) = eqb-suc-zero (length s)
