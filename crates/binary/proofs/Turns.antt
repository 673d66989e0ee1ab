-- Laws of the loop that reads groups: what its sums come to, and one law for each way out and for each turn.
-- Assumes nothing.
use mathlib.Core.Path.{◌≡◌, refl, sym, ap, ap₂, ◌∙◌}
use mathlib.Core.Bool.{cond}
use mathlib.Core.List.{List}
use Prim.Native.Nat.{ℕ, suc, ◌+◌, ◌-◌, ◌*◌, ◌^◌, ◌<◌, ◌≤◌}
use native.Mathlib.Omega.{arith}
use native.Mathlib.Nat.{mul-suc, mul-add, mul_assoc, one-mul, zero-add, add-zero, sub-zero, mul-le-mul_left, pow-le-pow_right, pow-suc, zero-lt-suc}
use native.Mathlib.Numerals.{add-one}
use native.Mathlib.Decide.{dec_lt}
use lib.Dec.{ltb}
use lib.ListN.{length, take, drop, get_or, length-take, length-drop}
use Rattle.std.proofs.Common.{get_or-take, get_or-drop}
use lib.Seq.{drop-cons}
use borrow.Author.Tests.{lt-ltb, le-ltb}
use Rattle.binary.proofs.Laws.{drop_past, groups_past}
use Rattle.binary.specs.Numbers.{Groups, number, cut, too_many, below, groups, within}
use Rattle.binary.specs.Steps.{behind}
use Rattle.std.specs.Prelude.{Ok, Err}
use Rattle.binary.specs.declared.number.NumberError.TheVariants.{Cut, Wrong}

-- ---- sums

-- before the ninth power of 128 there is room for a whole group
power_room : (i : ℕ) → i < 9 → 128 ^ i ≤ 72057594037927936
power_room i l = let k : i ≤ 8 = omega arith in pow-le-pow_right (zero-lt-suc 127) k

-- a digit times a power stays below the next power
digit_below : (power d : ℕ) → d < 128 → power * d + power ≤ power * 128
digit_below power d h = rw (mul-suc power d) at (mul-le-mul_left {m = suc d} power h)

module _ (value power i : ℕ) (is : power ≡ 128 ^ i) (small : value < power) where
  at_nine : i ≡ 9 → power ≡ 9223372036854775808
  at_nine e = is ∙ ap (λ (x : ℕ). 128 ^ x) e

  at_less : i < 9 → power ≤ 72057594037927936
  at_less l = rw is (power_room i l)

  -- of a tenth group only 0 and 1 fit
  last_fits : (b : ℕ) → i ≤ 9 → b < 128 → (i ≡ 9 → b ≤ 1) → value + power * b < 18446744073709551616
  last_fits b most l nine = go (dec_lt i 9)
    where
      go : Dec (i < 9) → value + power * b < 18446744073709551616
      go (yes k) = let r = at_less k in let d = digit_below power b l in omega arith
      go (no k) =
          let e : i ≡ 9 = omega arith in
          let p = at_nine e in
          let d = mul-le-mul_left power (nine e) in
          omega arith

  last_over : (b : ℕ) → i ≡ 9 → 1 < b → 18446744073709551616 ≤ value + power * b
  last_over b e l = let p = at_nine e in let d = mul-le-mul_left {m = 2} power l in omega arith

  -- a group that is not the last
  next_fits_lem : (d : ℕ) → i < 9 → d < 128 → (value + power * d < power * 128) × (power * 128 < 18446744073709551616)
  next_fits_lem d l h = let r = at_less l in let e = digit_below power d h in (omega arith, omega arith)

-- ---- one group more

behind_none : (g : Groups) → behind 0 1 0 g ≡ g
unfolding behind
behind_none (number v n) = ap₂ number (zero-add (1 * v) ∙ one-mul v) (zero-add n)
behind_none cut = refl
behind_none too_many = refl

behind_more : (value power i b : ℕ) (g : Groups) → behind value power i (below b g) ≡ behind (value + power * (b - 128)) (power * 128) (i + 1) g
unfolding behind below
behind_more value power i b (number v n) =
    let e : power * (b - 128 + 128 * v) ≡ power * (b - 128) + power * 128 * v = mul-add power (b - 128) (128 * v) ∙ ap (λ (x : ℕ). power * (b - 128) + x) (sym (mul_assoc power 128 v)) in
    ap₂ number (omega arith) (omega arith)
behind_more value power i b cut = refl
behind_more value power i b too_many = refl

-- ---- the bytes from a place on

module _ (bytes : List ℕ) (at i : ℕ) {rest : List ℕ} (p : at ≤ length bytes) (e : rest ≡ take (length bytes - at) (drop at bytes)) where
  rest_length : length rest + at ≡ length bytes
  rest_length = rw e (simp (length-take, length-drop) (omega arith))

  pub rest_past : length rest ≤ i → length bytes - at ≤ i
  rest_past l = let z = rest_length in omega arith

  module _ (l : i < length rest) where
    pub rest_inside : at + i < length bytes
    rest_inside = let z = rest_length in omega arith

    pub rest_byte : {b : ℕ} → b ≡ get_or rest i 0 → b ≡ get_or bytes (at + i) 0
    rest_byte {b} f = let k : i < length bytes - at = (let z = rest_length in omega arith) in rw (e, get_or-take, get_or-drop) at f

-- ---- the loop

-- what the loop holds before group i: the power, and what is left says the whole
pub record Held (bytes : List ℕ) (at most value power i : ℕ) : Type 0 where
  pub power_is : power ≡ 128 ^ i
  pub small : value < power
  pub left : behind value power i (groups (most - i) (drop (at + i) bytes)) ≡ groups most (drop at bytes)

pub start : (bytes : List ℕ) (at most : ℕ) → Held bytes at most 0 1 0
start bytes at most = record { power_is = refl; small = omega arith; left = rw (sub-zero, add-zero) (behind_none (groups most (drop at bytes))) }

module _ {bytes : List ℕ} {at most value power i : ℕ} (h : Held bytes at most value power i) where
  pub ended : most ≤ i → Err Wrong ≡ within 18446744073709551616 at (groups most (drop at bytes))
  unfolding groups behind within
  ended l =
      let z : most - i ≡ 0 = omega arith in
      let e : too_many ≡ groups most (drop at bytes) = rw z at h.left in
      rw (← e)

  module _ (l : i < most) where
    pub cut_off : at ≤ length bytes → length bytes - at ≤ i → Err Cut ≡ within 18446744073709551616 at (groups most (drop at bytes))
    unfolding behind within
    cut_off p q =
        let k : length bytes ≤ at + i = omega arith in
        let f = groups_past (most - i) (drop (at + i) bytes) (omega arith) (drop_past bytes (at + i) k) in
        let e : cut ≡ groups most (drop at bytes) = rw f at h.left in
        rw (← e)

    module _ {b : ℕ} (is : b ≡ get_or bytes (at + i) 0) (p : at + i < length bytes) where
      -- what is left begins with the byte
      here : behind value power i (cond (ltb b 128) (number b 1) (below b (groups (most - (i + 1)) (drop (at + (i + 1)) bytes)))) ≡ groups most (drop at bytes)
      unfolding groups
      here =
          let e : most - i ≡ suc (most - (i + 1)) = omega arith in
          let f : suc (at + i) ≡ at + (i + 1) = omega arith in
          rw (e, drop-cons bytes (at + i) 0 p, f, ← is) at h.left

      -- the last group
      module _ (last : b < 128) where
        whole : number (value + power * b) (i + 1) ≡ groups most (drop at bytes)
        unfolding behind
        whole = rw (lt-ltb b 128 last) at here

        pub fits : most ≤ 10 → (i ≡ 9 → b ≤ 1) → value + power * b < 18446744073709551616
        fits ten nine = last_fits value power i h.power_is h.small b (omega arith) last nine

        pub last_is : most ≤ 10 → (i ≡ 9 → b ≤ 1) → Ok (value + power * b, at + i + 1) ≡ within 18446744073709551616 at (groups most (drop at bytes))
        unfolding within
        last_is ten nine =
            let e : at + i + 1 ≡ at + (i + 1) = omega arith in
            rw (← whole, lt-ltb (value + power * b) 18446744073709551616 (fits ten nine), e)

        pub last_wrong : i ≡ 9 → 1 < b → Err Wrong ≡ within 18446744073709551616 at (groups most (drop at bytes))
        unfolding within
        last_wrong nine k = rw (← whole, le-ltb (value + power * b) 18446744073709551616 (last_over value power i h.power_is h.small b nine k))

      -- one that is not the last
      module _ (more : 128 ≤ b) where
        rest : behind (value + power * (b - 128)) (power * 128) (i + 1) (groups (most - (i + 1)) (drop (at + (i + 1)) bytes)) ≡ groups most (drop at bytes)
        rest = sym (behind_more value power i b _) ∙ (rw (le-ltb b 128 more) at here)

        pub more_wrong : most ≤ 10 → i ≡ 9 → Err Wrong ≡ within 18446744073709551616 at (groups most (drop at bytes))
        unfolding groups behind within
        more_wrong ten nine =
            let z : most - (i + 1) ≡ 0 = omega arith in
            let e : too_many ≡ groups most (drop at bytes) = rw z at rest in
            rw (← e)

        module _ (ten : most ≤ 10) (byte : b < 256) (other : i ≡ 9 → ⊥) where
          next_fits : (value + power * (b - 128) < power * 128) × (power * 128 < 18446744073709551616)
          next_fits = let k : i < 9 = go (dec_lt i 9) in next_fits_lem value power i h.power_is h.small (b - 128) k (omega arith)
            where
              go : Dec (i < 9) → i < 9
              go (yes k) = k
              go (no k) = absurd (other (omega arith))

          pub power_fits : power * 128 < 18446744073709551616
          power_fits = next_fits.1

          pub sum_fits : value + power * (b - 128) < 18446744073709551616
          sum_fits = let k = next_fits in omega arith

          pub turn : Held bytes at most (value + power * (b - 128)) (power * 128) (i + 1)
          turn = record { power_is = rw (h.power_is, add-one, pow-suc); small = next_fits.0; left = rest }
