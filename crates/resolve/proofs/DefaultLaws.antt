-- The tests of a default, one after the other.
-- Assumes nothing.
use mathlib.Core.Path.{◌≡◌, refl}
use mathlib.Core.Bool.{true, not, ◌&&◌}
use mathlib.Core.List.{List, [], ◌∷◌}
use Prim.Native.Nat.{ℕ, ◌-◌}
use native.Mathlib.Omega.{arith}
use lib.ListN.{length}
use Rattle.ground.specs.Bytes.{byte_at}
use Rattle.json_scan.specs.Json.{is_space}

-- no bytes, no white space at the ends
pub cut_none : (s : List ℕ) → length s ≡ 0 → true ≡ (not (is_space (byte_at s 0)) && not (is_space (byte_at s (length s - 1))))
unfolding byte_at
cut_none [] e = refl
cut_none (b ∷ bs) e = absurd (omega arith)
