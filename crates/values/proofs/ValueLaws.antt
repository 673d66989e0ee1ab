-- What a value is by its first byte, whole numbers, and the characters of a string, as the code's tests have them.
-- Assumes nothing.
use Rattle.std.specs.Prelude.{Option, Some, None}
use mathlib.Core.Path.{◌≡◌, sym, ap, ◌∙◌}
use mathlib.Core.Bool.{Bool, true, false, cond}
use mathlib.Core.List.{List, [], ◌∷◌}
use Prim.Native.Nat.{ℕ, suc, ◌+◌, ◌-◌, ◌<◌, ◌≤◌}
use native.Mathlib.Omega.{arith}
use lib.Dec.{ltb}
use lib.ListN.{length}
use borrow.Author.Tests.{eq-eqb, ne_eqb, lt-ltb, le-ltb, le-leb, lt-leb}
use Rattle.ground.specs.Bytes.{byte_at}
use Rattle.view.specs.Size.{size_of}
use Rattle.view.specs.Strings.{string_at, left_of, Reads}
use Rattle.view.specs.declared.strings.Cursor.{Cursor}
use Rattle.view.proofs.Laws.{string_short, read_end, read_byte}
use Rattle.values.specs.Steps.{narrow_size}
use Rattle.values.specs.Values.{up_to, is_whole, goes_on, characters, is_narrow}

-- ---- whole numbers, by the first byte

module _ (t : List ℕ) (p : ℕ) {b : ℕ} (e : b ≡ byte_at t p) where
  module _ (half : ℕ) {s : Option ℕ} {x : Bool} where
    pub whole_minus : b ≡ 45 → s ≡ size_of t (p + 1) → x ≡ up_to half s → x ≡ is_whole half t p
    unfolding is_whole
    whole_minus f g h = rw (← e, eq-eqb b 45 f, ← g) h

    pub whole_digits : (b ≡ 45 → ⊥) → s ≡ size_of t p → x ≡ up_to (half - 1) s → x ≡ is_whole half t p
    unfolding is_whole
    whole_digits f g h = rw (← e, ne_eqb b 45 f, ← g) h

-- ---- the characters of a string

pub goes_low : (b : ℕ) → b < 128 → false ≡ goes_on b
unfolding goes_on
goes_low b h = rw (lt-leb 128 b h)

pub goes_high : (b : ℕ) → 128 ≤ b → ltb b 192 ≡ goes_on b
unfolding goes_on
goes_high b h = rw (le-leb 128 b h)

characters_few : (s : List ℕ) → characters s ≤ length s
unfolding characters
characters_few [] = omega arith
characters_few (b ∷ s) = go (characters_few s) (goes_on b)
  where
    go : characters s ≤ length s → (x : Bool) → cond x (characters s) (suc (characters s)) ≤ suc (length s)
    go h true = omega arith
    go h false = omega arith

-- what is left of the string after a step
module _ {t left : List ℕ} {s : Option (ℕ × Cursor)} (r : Reads t left s) where
  -- no byte
  pub narrow_end : s ≡ None → {x : Bool} → is_narrow left ≡ x → true ≡ x
  unfolding is_narrow
  narrow_end e inv = sym (ap is_narrow (read_end r e)) ∙ inv

  pub characters_end : s ≡ None → (n : ℕ) {x : ℕ} → n + characters left ≡ x → n ≡ x
  unfolding characters
  characters_end e n inv = let z = ap characters (read_end r e) in omega arith

  -- a byte
  module _ {b : ℕ} {c : Cursor} (e : s ≡ Some (b, c)) where
    pub left_less : length (left_of t c) < length left
    left_less = let z = ap length (read_byte r e) in omega arith

    pub narrow_stop : 196 ≤ b → {x : Bool} → is_narrow left ≡ x → false ≡ x
    unfolding is_narrow
    narrow_stop h inv = sym (ap is_narrow (read_byte r e) ∙ rw (le-ltb b 196 h)) ∙ inv

    pub narrow_on : b < 196 → {x : Bool} → is_narrow left ≡ x → is_narrow (left_of t c) ≡ x
    unfolding is_narrow
    narrow_on h inv = sym (ap is_narrow (read_byte r e) ∙ rw (lt-ltb b 196 h)) ∙ inv

    module _ {g : Bool} (f : g ≡ goes_on b) (n : ℕ) {x : ℕ} (inv : n + characters left ≡ x) where
      pub characters_same : g ≡ true → n + characters (left_of t c) ≡ x
      unfolding characters
      characters_same h = let z : characters left ≡ characters (left_of t c) = ap characters (read_byte r e) ∙ rw (← f, h) in omega arith

      pub characters_more : g ≡ false → n + 1 + characters (left_of t c) ≡ x
      unfolding characters
      characters_more h = let z : characters left ≡ suc (characters (left_of t c)) = ap characters (read_byte r e) ∙ rw (← f, h) in omega arith

-- there are no more than bytes in the text
pub characters_bound : (t : List ℕ) (p : ℕ) → characters (string_at t p) ≤ length t
characters_bound t p = let a = characters_few (string_at t p) in let b = string_short t p in omega arith

-- ---- strings for bytes

pub narrow_all : (s : List ℕ) (n : ℕ) → true ≡ is_narrow s → n ≡ characters s → Some n ≡ narrow_size s
unfolding narrow_size
narrow_all s n e f = rw (← e, f)

pub narrow_not : (s : List ℕ) → false ≡ is_narrow s → None ≡ narrow_size s
unfolding narrow_size
narrow_not s e = rw (← e)
