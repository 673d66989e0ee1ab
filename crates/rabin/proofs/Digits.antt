-- The bytes of a number, lowest first, as the library tells them.
-- Assumes nothing.
use mathlib.Core.Path.{◌≡◌, refl, ap₂}
use mathlib.Core.List.{List, ◌∷◌}
use Prim.Native.Nat.{ℕ, zero, suc, ◌/◌, ◌%◌, ◌^◌}
use native.Mathlib.Omega.{arith}
use Rattle.std.proofs.Math.Nat.{pow-suc, div-div-eq-div-mul}
use mir.Syntax.{w64}
use Rattle.std.specs.Int.{byte_at, bytes_low_first, to_le_bytes}
use Rattle.ground.specs.Numbers.{low_first}

at_is : (i n m : ℕ) → m ≡ n / 256 ^ i → byte_at i n ≡ m % 256
at_is zero n m e = let h : m ≡ n = omega arith in rw h
at_is (suc i) n m e = rw e

le_bytes : (k i n m : ℕ) → m ≡ n / 256 ^ i → bytes_low_first i k n ≡ low_first k m
unfolding low_first
le_bytes zero i n m e = refl
le_bytes (suc k) i n m e =
    let h : m / 256 ≡ n / 256 ^ suc i = rw (pow-suc, e) (div-div-eq-div-mul n (256 ^ i) 256) in
    ap₂ (λ (b : ℕ) (l : List ℕ). b ∷ l) (at_is i n m e) (le_bytes k (suc i) n (m / 256) h)

pub eight_bytes : (n : ℕ) → to_le_bytes w64 n ≡ low_first 8 n
eight_bytes n = le_bytes 8 0 n n (omega arith)
