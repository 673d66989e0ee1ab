-- Laws of numbers as bytes.
-- Assumes nothing.
use mathlib.Core.Path.{◌≡◌, refl, ap, ◌∙◌}
use mathlib.Core.List.{List, [], ◌∷◌}
use Prim.Native.Nat.{ℕ, zero, suc, ◌+◌, ◌-◌, ◌*◌, ◌/◌, ◌^◌, ◌<◌}
use native.Mathlib.Nat.{pow-suc, div-div-eq-div-mul, div-lt_iff_lt-mul}
use native.Mathlib.Omega.{arith}
use lib.Dec.{lit<}
use lib.ListN.{length, get_or, take, drop}
use lib.Seq.{take-nil, drop-nil, take_all}
use Rattle.std.specs.Int.{w64, from_le_bytes, to_le_bytes}
use Rattle.std.specs.Array.{IsWholeChunk}
use Rattle.ground.specs.Bytes.{part}
use Rattle.ground.specs.Numbers.{low_first}
use Rattle.row.specs.Numbers.{le, number}

pub length_bytes : (n v : ℕ) → length (low_first n v) ≡ n
unfolding low_first
length_bytes zero v = refl
length_bytes (suc n) v = ap suc (length_bytes n (v / 256))

pub le_one : (b : ℕ) → le (b ∷ []) ≡ b
unfolding le
le_one b = omega arith

-- a number that fits comes back
pub le_bytes : (n v : ℕ) → v < 256 ^ n → le (low_first n v) ≡ v
unfolding le low_first
le_bytes zero v h = let e : v < 1 = h in omega arith
le_bytes (suc n) v h =
    let k : v < 256 ^ n * 256 = rw pow-suc at h in
    let e = le_bytes n (v / 256) ((div-lt_iff_lt-mul (lit< tt)).1 k) in
    omega arith

-- ---- reading: one byte, and the number of the bytes behind it

le_part : (m : List ℕ) (at n : ℕ) → number m at (suc n) ≡ get_or m at 0 + 256 * number m (at + 1) n
unfolding le part
le_part [] zero n = rw take-nil
le_part [] (suc at) n = rw (drop-nil, take-nil)
le_part (x ∷ m) zero n = refl
le_part (x ∷ m) (suc at) n = let e : suc at + 1 ≡ suc (at + 1) = omega arith in rw e (le_part m at n)

pub number_none : (m : List ℕ) (at : ℕ) → number m at 0 ≡ 0
unfolding le part
number_none m at = refl

pub number_one : (m : List ℕ) (at : ℕ) → number m at 1 ≡ get_or m at 0
number_one m at = omega (arith, le_part m at 0, number_none m (at + 1))

pub number_two : (m : List ℕ) (at : ℕ) → number m at 2 ≡ get_or m at 0 + 256 * get_or m (at + 1) 0
number_two m at = omega (arith, le_part m at 1, number_one m (at + 1))

-- two bytes, and those behind them
pub number_more : (m : List ℕ) (at n : ℕ) → number m at (2 + n) ≡ number m at 2 + 65536 * number m (at + 2) n
number_more m at n =
    let e : 2 + n ≡ suc (suc n) = omega arith in
    let f : at + 1 + 1 ≡ at + 2 = omega arith in
    rw e (omega (arith, le_part m at (suc n), rw f at (le_part m (at + 1) n), number_two m at))

-- eight bytes, by twos
pub number_eight : (m : List ℕ) (at : ℕ) → number m at 8 ≡ number m at 2 + 65536 * number m (at + 2) 2 + 4294967296 * number m (at + 4) 2 + 281474976710656 * number m (at + 6) 2
number_eight m at =
    let e : at + 2 + 2 ≡ at + 4 = omega arith in
    let f : at + 4 + 2 ≡ at + 6 = omega arith in
    omega (arith, number_more m at 6, rw e at (number_more m (at + 2) 4), rw f at (number_more m (at + 4) 2))

-- an array of the n bytes from a place on holds their number
whole_number : (m y : List ℕ) (at n : ℕ) → IsWholeChunk (take (at + n - at) (drop at m)) y n → number y 0 n ≡ number m at n
unfolding part
whole_number m y at n w =
    let k : at + n - at ≡ n = omega arith in
    let l : length y ≡ n = ap length w.same ∙ w.long in
    ap le (take_all n y (omega arith) ∙ w.same) ∙ rw k

pub two_read : (m y : List ℕ) (at r : ℕ) → IsWholeChunk (take (at + 2 - at) (drop at m)) y 2 → r ≡ get_or y 0 0 + get_or y 1 0 * 256 → r ≡ number m at 2
two_read m y at r w e = omega (arith, whole_number m y at 2 w, number_two y 0)

pub eight_read : (m y : List ℕ) (at r : ℕ) → IsWholeChunk (take (at + 8 - at) (drop at m)) y 8 → r ≡ from_le_bytes w64 y → r ≡ number m at 8
eight_read m y at r w e = omega (arith, whole_number m y at 8 w, number_eight y 0, number_two y 0, number_two y 2, number_two y 4, number_two y 6)

-- ---- writing

pub low_eight : (v : ℕ) → to_le_bytes w64 v ≡ low_first 8 v
unfolding low_first
low_eight v =
    rw (
      div-div-eq-div-mul v 256 256,
      div-div-eq-div-mul v 65536 256,
      div-div-eq-div-mul v 16777216 256,
      div-div-eq-div-mul v 4294967296 256,
      div-div-eq-div-mul v 1099511627776 256,
      div-div-eq-div-mul v 281474976710656 256,
    )
