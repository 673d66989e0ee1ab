-- Bytes of a class, by their ranges. Assumes nothing.
use mathlib.Core.Path.{◌≡◌, refl}
use mathlib.Core.Bool.{Bool, true, false, ◌&&◌, ◌||◌}
use Prim.Native.Nat.{ℕ, ◌≤◌, ◌<◌}
use borrow.Author.Tests.{le-leb, lt-leb, ne_eqb}
use lib.Dec.{leb}
use Rattle.json_scan.specs.Json.{inside, is_hex, is_high, is_low, is_d}

module _ (lo hi b : ℕ) where
  pub inside_true : lo ≤ b → b ≤ hi → inside lo hi b ≡ true
  inside_true l h = rw (le-leb lo b l) (le-leb b hi h)

  pub inside_below : b < lo → inside lo hi b ≡ false
  inside_below l = rw (lt-leb lo b l)

  pub inside_above : hi < b → inside lo hi b ≡ false
  inside_above l = cases (leb lo b)
    where
      cases : (x : Bool) → (x && leb b hi) ≡ false
      cases true = lt-leb b hi l
      cases false = refl

or_left : (a b : Bool) → a ≡ true → (a || b) ≡ true
or_left a b h = rw h

or_right : (a b : Bool) → b ≡ true → (a || b) ≡ true
or_right true b h = refl
or_right false b h = h

-- the three ranges of a class
module _ (a b c : Bool) where
  one_of_1 : a ≡ true → (a || b || c) ≡ true
  one_of_1 h = or_left (a || b) c (or_left a b h)

  one_of_2 : b ≡ true → (a || b || c) ≡ true
  one_of_2 h = or_left (a || b) c (or_right a b h)

  one_of_3 : c ≡ true → (a || b || c) ≡ true
  one_of_3 h = or_right (a || b) c h

module _ (b : ℕ) where
  pub hex_1 : 48 ≤ b → b ≤ 57 → is_hex b ≡ true
  hex_1 l h = one_of_1 (inside 48 57 b) (inside 65 70 b) (inside 97 102 b) (inside_true 48 57 b l h)

  pub hex_2 : 65 ≤ b → b ≤ 70 → is_hex b ≡ true
  hex_2 l h = one_of_2 (inside 48 57 b) (inside 65 70 b) (inside 97 102 b) (inside_true 65 70 b l h)

  pub hex_3 : 97 ≤ b → b ≤ 102 → is_hex b ≡ true
  hex_3 l h = one_of_3 (inside 48 57 b) (inside 65 70 b) (inside 97 102 b) (inside_true 97 102 b l h)

  pub high_1 : 56 ≤ b → b ≤ 57 → is_high b ≡ true
  high_1 l h = one_of_1 (inside 56 57 b) (inside 65 66 b) (inside 97 98 b) (inside_true 56 57 b l h)

  pub high_2 : 65 ≤ b → b ≤ 66 → is_high b ≡ true
  high_2 l h = one_of_2 (inside 56 57 b) (inside 65 66 b) (inside 97 98 b) (inside_true 65 66 b l h)

  pub high_3 : 97 ≤ b → b ≤ 98 → is_high b ≡ true
  high_3 l h = one_of_3 (inside 56 57 b) (inside 65 66 b) (inside 97 98 b) (inside_true 97 98 b l h)

  pub low_1 : 67 ≤ b → b ≤ 70 → is_low b ≡ true
  low_1 l h = or_left (inside 67 70 b) (inside 99 102 b) (inside_true 67 70 b l h)

  pub low_2 : 99 ≤ b → b ≤ 102 → is_low b ≡ true
  low_2 l h = or_right (inside 67 70 b) (inside 99 102 b) (inside_true 99 102 b l h)

  pub no_D : (b ≡ 100 → ⊥) → (b ≡ 68 → ⊥) → is_d b ≡ false
  no_D n m = rw (ne_eqb b 100 n) (ne_eqb b 68 m)
