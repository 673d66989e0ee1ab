-- Decimal numbers: the turns of the loop that reads one, and that `io`'s digits are those of the definition.
-- Assumes nothing.
use mathlib.Core.Path.{◌≡◌, refl, sym, ap, ◌∙◌}
use mathlib.Core.Bool.{Bool, true, false, cond}
use mathlib.Core.List.{List, [], ◌∷◌, ◌++◌}
use Prim.Native.Nat.{ℕ, zero, suc, ◌+◌, ◌-◌, ◌*◌, ◌/◌, ◌%◌, ◌^◌, ◌<◌, ◌≤◌}
use native.Mathlib.Nat.{pow-succ', pow-le-pow_right, sub-zero}
use native.Mathlib.Numerals.{add-one}
use native.Mathlib.Omega.{arith}
use native.Mathlib.Decide.{dec_lt}
use lib.Dec.{eqb}
use lib.IntN.{ℤ, pos, negsuc, nat_abs}
use lib.Signed.{lt_z}
use lib.ListN.{length, get_or, take, drop, drop_of_length-le}
use lib.Seq.{drop-cons}
use borrow.Author.Tests.{lt-ltb, le-ltb, eqb-true, ltb-true}
use mir.Syntax.{w64}
use mir.Val.{SFits, of_z, to_z}
use mir.Facts.{to_z-of_z}
use Rattle.ground.proofs.Laws.{never}
use Rattle.io.specs.Digits.{last_digits, IsDigitCount}
use Rattle.script.specs.Numbers.{is_digit, fitting, number_from, number_of, digits_of, decimal_of, signed_of}
use Rattle.std.specs.Prelude.{Option, Some, None}

-- ---- reading

too_big : (v : ℕ) (s : List ℕ) → 18446744073709551616 ≤ v → None ≡ number_from v s
unfolding number_from fitting
too_big v [] h = rw (le-ltb v 18446744073709551616 h)
too_big v (b ∷ s) h = go (too_big (v * 10 + (b - 48)) s (omega arith)) (is_digit b)
  where
    go : None ≡ number_from (v * 10 + (b - 48)) s → (x : Bool) → None ≡ cond x (number_from (v * 10 + (b - 48)) s) None
    go r true = r
    go r false = refl

pub number_none : (s : List ℕ) → eqb (length s) 0 ≡ true → None ≡ number_of s
unfolding number_of
number_none [] e = refl
number_none (b ∷ s) e = absurd (omega (arith, eqb-true (length (b ∷ s)) 0 e))

pub number_some : (s : List ℕ) → eqb (length s) 0 ≡ false → number_from 0 s ≡ number_of s
unfolding number_of
number_some [] e = never (sym e)
number_some (b ∷ s) e = refl

module _ (s : List ℕ) (i v : ℕ) (x : Option ℕ) (inv : number_from v (drop i s) ≡ x) where
  pub number_end : length s ≤ i → v < 18446744073709551616 → Some v ≡ x
  unfolding number_from fitting
  number_end h l = sym (rw (drop_of_length-le s h, lt-ltb v 18446744073709551616 l)) ∙ inv

  module _ (h : i < length s) where
    pub number_bad : is_digit (get_or s i 0) ≡ false → None ≡ x
    unfolding number_from
    number_bad e = sym (rw (drop-cons s i 0 h, e)) ∙ inv

    module _ (e : is_digit (get_or s i 0) ≡ true) where
      pub number_turn : number_from (v * 10 + (get_or s i 0 - 48)) (drop (i + 1) s) ≡ x
      unfolding number_from
      number_turn = sym (rw (drop-cons s i 0 h, e, add-one)) ∙ inv

      pub number_big : 18446744073709551616 ≤ v * 10 + (get_or s i 0 - 48) → None ≡ x
      number_big l = too_big (v * 10 + (get_or s i 0 - 48)) (drop (i + 1) s) l ∙ number_turn

-- ---- writing

fewest_digits : (f k n : ℕ) → IsDigitCount 10 1 n k → k ≤ f → last_digits 10 k n ≡ digits_of f n
unfolding digits_of
fewest_digits f zero n p h = absurd (omega arith)
fewest_digits zero (suc k) n p h = absurd (omega arith)
fewest_digits (suc f) (suc zero) n p h =
    let l : n < 10 = p.1 in
    let e : n % 10 ≡ n = omega arith in
    rw (lt-ltb n 10 l, e, lt-ltb n 10 l)
fewest_digits (suc f) (suc (suc j)) n p h =
    let a = pow-succ' 10 (suc j) in
    let b = pow-succ' 10 j in
    let k : suc (suc j) - 1 ≡ suc j = omega arith in
    let i : suc j - 1 ≡ j = omega arith in
    let m : 10 ^ (suc j) ≤ n = rw k at (p.2 (omega arith)) in
    let l : n / 10 < 10 ^ (suc j) = omega arith in
    let g : 10 ≤ n = omega arith in
    let q : IsDigitCount 10 1 (n / 10) (suc j) = (omega arith, l, λ z. rw i (omega arith)) in
    let r = fewest_digits f (suc j) (n / 10) q (omega arith) in
    let t : n % 10 < 10 = omega arith in
    rw (le-ltb n 10 g, lt-ltb (n % 10) 10 t) (ap (λ (x : List ℕ). x ++ ((48 + n % 10) ∷ [])) r)

few_places : (k n : ℕ) → n < 2 ^ 64 → IsDigitCount 10 1 n k → k ≤ 20
few_places k n l p = go (dec_lt 20 k)
  where
    go : Dec (20 < k) → k ≤ 20
    go (no m) = omega arith
    go (yes m) =
        let a : 10 ^ (k - 1) ≤ n = p.2 (omega arith) in
        let b : 10 ^ 20 ≤ 10 ^ (k - 1) = pow-le-pow_right {n = 10} (omega arith) {i = 20} {j = k - 1} (omega arith) in
        absurd (omega arith)

pub decimal_digits : (k n : ℕ) (out : List ℕ) → IsDigitCount 10 1 n k → n < 2 ^ 64 → take k out ≡ last_digits 10 k n → take (k - 0) (drop 0 out) ≡ decimal_of n
unfolding decimal_of
decimal_digits k n out p h e = rw sub-zero (e ∙ fewest_digits 20 k n p (few_places k n h p))

-- the test speaks of the number read back from its bits
test : (z : ℤ) (b : Bool) → SFits w64 z → lt_z (to_z w64 (of_z w64 z)) (pos 0) ≡ b → lt_z z (pos 0) ≡ b
test z b h t = rw (to_z-of_z h) at t

below : (z : ℤ) → lt_z z (pos 0) ≡ true → (45 ∷ []) ++ decimal_of (nat_abs z) ≡ signed_of z
below (pos n) t = absurd (omega (arith, ltb-true n 0 t))
below (negsuc n) t = refl

module _ (z : ℤ) (n : ℕ) (h : SFits w64 z) (e : n ≡ nat_abs (to_z w64 (of_z w64 z))) where
  pub signed_below : lt_z (to_z w64 (of_z w64 z)) (pos 0) ≡ true → (45 ∷ []) ++ decimal_of n ≡ signed_of z
  signed_below t = rw (e, to_z-of_z h) (below z (test z true h t))
