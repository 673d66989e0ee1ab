-- The digits of a \u: what four of them write, for the grammar and for the view, and in which bounds it lies.
-- Assumes nothing.
use mathlib.Core.Path.{◌≡◌, subst}
use mathlib.Core.List.{List, [], ◌∷◌, ◌++◌}
use Prim.Native.Nat.{ℕ, ◌+◌, ◌-◌, ◌*◌, ◌≤◌, ◌<◌}
use native.Mathlib.Omega.{arith}
use borrow.Author.Tests.{le-leb, lt-leb, le-ltb}
use Rattle.grammar.specs.Grammar.{Range, within, bytes, join, ◌or◌, this, that, HEXDIG, digit_D, digit_not_D, non_surrogate, high_surrogate, low_surrogate}
use Rattle.view.specs.Strings.{hex_of}
use Rattle.tree.specs.Characters.{digit, hexadecimal}

-- one digit; W holds of its value
data Hex (W : ℕ → Type 0) : List ℕ → Type 0 where
  hex : {b : ℕ} → hex_of b ≡ digit b → W (digit b) → Hex W (b ∷ [])

-- four digits; U holds of the number they write
pub data Four (U : ℕ → Type 0) : List ℕ → Type 0 where
  four : {a b c d : ℕ} → hex_of a ≡ digit a → hex_of b ≡ digit b → hex_of c ≡ digit c → hex_of d ≡ digit d
      → U (hexadecimal 0 (a ∷ b ∷ c ∷ d ∷ [])) → Four U (a ∷ b ∷ c ∷ d ∷ [])

pub four_number : {U : ℕ → Type 0} {s : List ℕ} → Four U s → U (hexadecimal 0 s)
four_number (four a b c d h) = h

-- ---- the three ranges of digits
module _ {W : ℕ → Type 0} (b : ℕ) where
  decimal : 0x30 ≤ b → b ≤ 0x39 → W (b - 0x30) → Hex W (b ∷ [])
  unfolding digit hex_of
  decimal l g v = hex {b = b} (rw (le-ltb b 48 l, le-leb b 57 g)) (rw (le-leb b 57 g) v)

  upper : 0x41 ≤ b → b ≤ 0x46 → W (b - 0x41 + 10) → Hex W (b ∷ [])
  unfolding digit hex_of
  upper l g v =
      hex {b = b}
      (let e : b - 55 ≡ b - 0x41 + 10 = omega arith in rw (le-ltb b 48 (omega arith), lt-leb b 57 (omega arith), le-ltb b 65 l, le-leb b 70 g) e)
      (rw (lt-leb b 57 (omega arith), le-leb b 70 g) v)

  lower : 0x61 ≤ b → b ≤ 0x66 → W (b - 0x61 + 10) → Hex W (b ∷ [])
  unfolding digit hex_of
  lower l g v =
      hex {b = b}
      (let e : b - 87 ≡ b - 0x61 + 10 = omega arith in rw (le-ltb b 48 (omega arith), lt-leb b 57 (omega arith), le-ltb b 65 (omega arith), lt-leb b 70 (omega arith), le-ltb b 97 l, le-leb b 102 g) e)
      (rw (lt-leb b 57 (omega arith), lt-leb b 70 (omega arith)) v)

-- ---- the classes of digits
any : {s : List ℕ} → HEXDIG s → Hex (λ n. n ≤ 15) s
any (this (within {b} l g)) = decimal b l g (omega arith)
any (that (this (within {b} l g))) = upper b l g (omega arith)
any (that (that (within {b} l g))) = lower b l g (omega arith)

is_D : {s : List ℕ} → digit_D s → Hex (λ n. n ≡ 13) s
is_D (this bytes) = upper 0x44 (omega arith) (omega arith) (omega arith)
is_D (that bytes) = lower 0x64 (omega arith) (omega arith) (omega arith)

not_D : {s : List ℕ} → digit_not_D s → Hex (λ n. (n ≤ 15) × (n ≡ 13 → ⊥)) s
not_D (this (within {b} l g)) = decimal b l g (omega arith)
not_D (that (this (within {b} l g))) = upper b l (omega arith) (omega arith)
not_D (that (that (this (within {b} l g)))) = upper b (omega arith) g (omega arith)
not_D (that (that (that (this (within {b} l g))))) = lower b l (omega arith) (omega arith)
not_D (that (that (that (that (within {b} l g))))) = lower b (omega arith) g (omega arith)

below_8 : {s : List ℕ} → Range 0x30 0x37 s → Hex (λ n. n ≤ 7) s
below_8 (within {b} l g) = decimal b l (omega arith) (omega arith)

high_2 : {s : List ℕ} → (Range 0x38 0x39 or Range 0x41 0x42 or Range 0x61 0x62) s → Hex (λ n. (8 ≤ n) × (n ≤ 11)) s
high_2 (this (within {b} l g)) = decimal b (omega arith) g (omega arith)
high_2 (that (this (within {b} l g))) = upper b l (omega arith) (omega arith)
high_2 (that (that (within {b} l g))) = lower b l (omega arith) (omega arith)

low_2 : {s : List ℕ} → (Range 0x43 0x46 or Range 0x63 0x66) s → Hex (λ n. (12 ≤ n) × (n ≤ 15)) s
low_2 (this (within {b} l g)) = upper b (omega arith) g (omega arith)
low_2 (that (within {b} l g)) = lower b (omega arith) g (omega arith)

-- ---- four digits
-- U follows from what holds of each
module _ {A B U : ℕ → Type 0} (in_bounds : (a b c d : ℕ) → A a → B b → c ≤ 15 → d ≤ 15 → U (a * 4096 + b * 256 + c * 16 + d)) where
  four_of : {a b c d : List ℕ} → Hex A a → Hex B b → Hex (λ n. n ≤ 15) c → Hex (λ n. n ≤ 15) d → Four U (a ++ (b ++ (c ++ d)))
  unfolding hexadecimal
  four_of (hex {b = a} e h) (hex {b = b} f i) (hex {b = c} g j) (hex {b = d} o k) =
      let x : digit a * 4096 + digit b * 256 + digit c * 16 + digit d ≡ (((0 * 16 + digit a) * 16 + digit b) * 16 + digit c) * 16 + digit d = omega arith in
      four e f g o (subst U x (in_bounds (digit a) (digit b) (digit c) (digit d) h i j k))

-- no half of a pair, and the two halves
abbrev pub Single : ℕ → Type 0
Single u = (u < 0x10000) × (0xD800 ≤ u → u ≤ 0xDFFF → ⊥)

abbrev pub High : ℕ → Type 0
High u = (0xD800 ≤ u) × (u ≤ 0xDBFF)

abbrev pub Low : ℕ → Type 0
Low u = (0xDC00 ≤ u) × (u ≤ 0xDFFF)

pub single : {s : List ℕ} → non_surrogate s → Four Single s
single (this (join a (join b (join c d)))) = four_of (omega arith) (not_D a) (any b) (any c) (any d)
single (that (join a (join b (join c d)))) = four_of (omega arith) (is_D a) (below_8 b) (any c) (any d)

pub high : {s : List ℕ} → high_surrogate s → Four High s
high (join a (join b (join c d))) = four_of (omega arith) (is_D a) (high_2 b) (any c) (any d)

pub low : {s : List ℕ} → low_surrogate s → Four Low s
low (join a (join b (join c d))) = four_of (omega arith) (is_D a) (low_2 b) (any c) (any d)
