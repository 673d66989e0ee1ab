-- A byte of a class of the automaton is matched by a rule of one byte. Assumes nothing.
use mathlib.Core.Path.{◌≡◌, refl, sym, subst}
use mathlib.Core.Bool.{Bool, true, false, ◌&&◌, ◌||◌, false≢true}
use mathlib.Core.Logic.{◌⊎◌, inl, inr, ⊎_elim}
use mathlib.Core.List.{List, [], ◌∷◌}
use Prim.Native.Nat.{ℕ, ◌≤◌, ◌<◌}
use native.Mathlib.Decide.{dec_lt}
use native.Mathlib.Omega.{arith}
use borrow.Author.Tests.{eqb-true, eqb-false, leb-true}
use lib.Dec.{eqb, leb}
use Rattle.json_scan.specs.Json.{inside, is_space, is_hex, is_e, is_sign, is_d, is_high, is_low, is_short}
use Rattle.grammar.specs.Grammar.{Byte, bytes, Range, within, ◌or◌, this, that, HEXDIG, digit_D, digit_not_D, e, minus, plus, short, unescaped}

or_split : (a b : Bool) → (a || b) ≡ true → (a ≡ true) ⊎ (b ≡ true)
or_split true b h = inl refl
or_split false b h = inr h

pub is_byte : (x b : ℕ) → eqb b x ≡ true → Byte x (b ∷ [])
is_byte x b h = subst (λ (y : ℕ). Byte x (y ∷ [])) (sym (eqb-true b x h)) bytes

or_none : (a b : Bool) → (a || b) ≡ false → (a ≡ false) × (b ≡ false)
or_none true b h = absurd (false≢true (sym h))
or_none false b h = (refl, h)

pub bounds : (lo hi b : ℕ) → inside lo hi b ≡ true → (lo ≤ b) × (b ≤ hi)
bounds lo hi b h = cases (leb lo b) refl h
  where
    cases : (x : Bool) → leb lo b ≡ x → (x && leb b hi) ≡ true → (lo ≤ b) × (b ≤ hi)
    cases true l g = (leb-true lo b l, leb-true b hi g)
    cases false l g = absurd (false≢true g)

pub in_range : (lo hi b : ℕ) → inside lo hi b ≡ true → Range lo hi (b ∷ [])
in_range lo hi b h = let l = bounds lo hi b h in within l.0 l.1

module _ (b : ℕ) where
  -- one of two, of three
  or_2 : {P Q : List ℕ → Type 0} (x y : Bool) → (x ≡ true → P (b ∷ [])) → (y ≡ true → Q (b ∷ [])) → (x || y) ≡ true → (P or Q) (b ∷ [])
  or_2 x y p q h = ⊎_elim (λ i. this (p i)) (λ i. that (q i)) (or_split x y h)

  or_3 : {P Q R : List ℕ → Type 0} (x y z : Bool) → (x ≡ true → P (b ∷ [])) → (y ≡ true → Q (b ∷ [])) → (z ≡ true → R (b ∷ [])) → (x || y || z) ≡ true
      → (P or Q or R) (b ∷ [])
  or_3 x y z p q r h = ⊎_elim (λ g. ⊎_elim (λ i. this (p i)) (λ i. that (this (q i))) (or_split x y g)) (λ i. that (that (r i))) (or_split (x || y) z h)

  pub is_space_lem : is_space b ≡ true → (Byte 32 or Byte 9 or Byte 10 or Byte 13) (b ∷ [])
  is_space_lem h =
      ⊎_elim
      (λ g. ⊎_elim
      (λ f. ⊎_elim (λ i. this (is_byte 32 b i)) (λ i. that (this (is_byte 9 b i))) (or_split (eqb b 32) (eqb b 9) f))
      (λ i. that (that (this (is_byte 10 b i))))
      (or_split (eqb b 32 || eqb b 9) (eqb b 10) g))
      (λ i. that (that (that (is_byte 13 b i))))
      (or_split (eqb b 32 || eqb b 9 || eqb b 10) (eqb b 13) h)

  pub is_e_lem : is_e b ≡ true → e (b ∷ [])
  is_e_lem = or_2 (eqb b 101) (eqb b 69) (is_byte 101 b) (is_byte 69 b)

  pub is_sign_lem : is_sign b ≡ true → (minus or plus) (b ∷ [])
  is_sign_lem h = ⊎_elim (λ i. that (is_byte 43 b i)) (λ i. this (is_byte 45 b i)) (or_split (eqb b 43) (eqb b 45) h)

  pub is_D : is_d b ≡ true → digit_D (b ∷ [])
  is_D h = ⊎_elim (λ i. that (is_byte 100 b i)) (λ i. this (is_byte 68 b i)) (or_split (eqb b 100) (eqb b 68) h)

  pub is_hex_lem : is_hex b ≡ true → HEXDIG (b ∷ [])
  is_hex_lem = or_3 (inside 48 57 b) (inside 65 70 b) (inside 97 102 b) (in_range 48 57 b) (in_range 65 70 b) (in_range 97 102 b)

  pub is_high_lem : is_high b ≡ true → (Range 56 57 or Range 65 66 or Range 97 98) (b ∷ [])
  is_high_lem = or_3 (inside 56 57 b) (inside 65 66 b) (inside 97 98 b) (in_range 56 57 b) (in_range 65 66 b) (in_range 97 98 b)

  pub is_low_lem : is_low b ≡ true → (Range 67 70 or Range 99 102) (b ∷ [])
  is_low_lem = or_2 (inside 67 70 b) (inside 99 102 b) (in_range 67 70 b) (in_range 99 102 b)

  module _ (n : is_d b ≡ false) where
    apart_D : (b ≡ 68) ⊎ (b ≡ 100) → ⊥
    apart_D h =
        let f = or_none (eqb b 100) (eqb b 68) n in
        ⊎_elim (eqb-false b 68 f.1) (eqb-false b 100 f.0) h

    no_68 : b ≡ 68 → ⊥
    no_68 y = apart_D (inl y)

    no_100 : b ≡ 100 → ⊥
    no_100 y = apart_D (inr y)

    upper : 65 ≤ b → b ≤ 70 → digit_not_D (b ∷ [])
    upper l g = elim (dec_lt b 68) [ yes x ↦ that (this (within {b = b} l (omega arith))) | no x ↦ that (that (this (within {b = b} (omega (arith, no_68)) g))) ]

    lower : 97 ≤ b → b ≤ 102 → digit_not_D (b ∷ [])
    lower l g = elim (dec_lt b 100) [ yes x ↦ that (that (that (this (within {b = b} l (omega arith))))) | no x ↦ that (that (that (that (within {b = b} (omega (arith, no_100)) g)))) ]

    pub is_not_D : is_hex b ≡ true → digit_not_D (b ∷ [])
    is_not_D h =
        ⊎_elim
        (λ g. ⊎_elim (λ i. this (in_range 48 57 b i)) (λ i. let l = bounds 65 70 b i in upper l.0 l.1) (or_split (inside 48 57 b) (inside 65 70 b) g))
        (λ i. let l = bounds 97 102 b i in lower l.0 l.1)
        (or_split (inside 48 57 b || inside 65 70 b) (inside 97 102 b) h)

  -- one of " \ / b f n r t
  pub is_short_lem : is_short b ≡ true → short (b ∷ [])
  is_short_lem h7 =
      ⊎_elim
      (λ h6. ⊎_elim
      (λ h5. ⊎_elim
      (λ h4. ⊎_elim
      (λ h3. ⊎_elim
      (λ h2. ⊎_elim
      (λ h1. ⊎_elim (λ i. this (is_byte 34 b i)) (λ i. that (this (is_byte 92 b i))) (or_split (eqb b 34) (eqb b 92) h1))
      (λ i. that (that (this (is_byte 47 b i))))
      (or_split (eqb b 34 || eqb b 92) (eqb b 47) h2))
      (λ i. that (that (that (this (is_byte 98 b i)))))
      (or_split (eqb b 34 || eqb b 92 || eqb b 47) (eqb b 98) h3))
      (λ i. that (that (that (that (this (is_byte 102 b i))))))
      (or_split (eqb b 34 || eqb b 92 || eqb b 47 || eqb b 98) (eqb b 102) h4))
      (λ i. that (that (that (that (that (this (is_byte 110 b i)))))))
      (or_split (eqb b 34 || eqb b 92 || eqb b 47 || eqb b 98 || eqb b 102) (eqb b 110) h5))
      (λ i. that (that (that (that (that (that (this (is_byte 114 b i))))))))
      (or_split (eqb b 34 || eqb b 92 || eqb b 47 || eqb b 98 || eqb b 102 || eqb b 110) (eqb b 114) h6))
      (λ i. that (that (that (that (that (that (that (is_byte 116 b i))))))))
      (or_split (eqb b 34 || eqb b 92 || eqb b 47 || eqb b 98 || eqb b 102 || eqb b 110 || eqb b 114) (eqb b 116) h7)

  -- a character of one byte
  module _ (l : 32 ≤ b) (h : b < 128) (n : b ≡ 34 → ⊥) (m : b ≡ 92 → ⊥) where
    pub is_ascii : unescaped (b ∷ [])
    is_ascii =
        elim (dec_lt b 34) [
          | yes x ↦ this (within {b = b} l (omega arith))
          | no x ↦ elim (dec_lt b 92) [ yes y ↦ that (this (within {b = b} (omega (arith, n)) (omega arith))) | no y ↦ that (that (this (within {b = b} (omega (arith, m)) (omega arith)))) ]
        ]
