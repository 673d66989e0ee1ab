-- The definitions of narrow text and of its characters say of text in UTF-8 what code points say: each is at most 255; how many there are.
-- Assumes nothing.
use mathlib.Core.Path.{◌≡◌, refl, sym, ap, ◌∙◌}
use mathlib.Core.Bool.{Bool, true, false, ◌&&◌}
use mathlib.Core.List.{List, [], ◌∷◌, ◌++◌}
use Prim.Native.Nat.{ℕ, suc, ◌+◌, ◌/◌, ◌%◌, ◌<◌, ◌≤◌}
use native.Mathlib.Decide.{dec_lt}
use native.Mathlib.Omega.{arith}
use lib.Dec.{leb, ltb}
use lib.ListN.{length}
use borrow.Author.Tests.{lt-ltb, le-ltb, le-leb, lt-leb}
use Rattle.name.specs.Name.{every}
use Rattle.view.specs.Strings.{utf8_of}
use Rattle.values.specs.Values.{goes_on, characters, is_narrow}
use Rattle.values.proofs.ValueLaws.{goes_low, goes_high}

-- characters in UTF-8, by their code points
unfoldable pub written : List ℕ → List ℕ
written [] = []
written (c ∷ cs) = utf8_of c ++ written cs

-- ---- one character: which of its bytes go on, and which are large

begins_low : (b : ℕ) → b < 128 → goes_on b ≡ false
begins_low b h = sym (goes_low b h)

begins_high : (b : ℕ) → 192 ≤ b → goes_on b ≡ false
begins_high b h = sym (goes_high b (omega arith)) ∙ le-ltb b 192 h

goes : (x : ℕ) → goes_on (128 + x % 64) ≡ true
goes x = sym (goes_high (128 + x % 64) (omega arith)) ∙ lt-ltb (128 + x % 64) 192 (omega arith)

small : (x : ℕ) → ltb (128 + x % 64) 196 ≡ true
small x = lt-ltb (128 + x % 64) 196 (omega arith)

module _ (c : ℕ) (rest : List ℕ) where
  -- it is counted once
  count_one : characters (utf8_of c ++ rest) ≡ suc (characters rest)
  unfolding utf8_of characters
  count_one = one (dec_lt c 128)
    where
      four : Dec (c < 65536) → 2048 ≤ c → 128 ≤ c → characters (utf8_of c ++ rest) ≡ suc (characters rest)
      four (yes h) k l = rw (le-ltb c 128 l, le-ltb c 2048 k, lt-ltb c 65536 h, begins_high (224 + c / 4096) (omega arith), goes (c / 64), goes c)
      four (no h) k l = rw (le-ltb c 128 l, le-ltb c 2048 k, le-ltb c 65536 (omega arith), begins_high (240 + c / 262144) (omega arith), goes (c / 4096), goes (c / 64), goes c)

      two : Dec (c < 2048) → 128 ≤ c → characters (utf8_of c ++ rest) ≡ suc (characters rest)
      two (yes h) l = rw (le-ltb c 128 l, lt-ltb c 2048 h, begins_high (192 + c / 64) (omega arith), goes c)
      two (no h) l = four (dec_lt c 65536) (omega arith) l

      one : Dec (c < 128) → characters (utf8_of c ++ rest) ≡ suc (characters rest)
      one (yes h) = rw (lt-ltb c 128 h, begins_low c h)
      one (no h) = two (dec_lt c 2048) (omega arith)

  -- and is narrow where its code point is at most 255
  narrow_one : is_narrow (utf8_of c ++ rest) ≡ (leb c 255 && is_narrow rest)
  unfolding utf8_of is_narrow
  narrow_one = one (dec_lt c 128)
    where
      four : Dec (c < 65536) → 2048 ≤ c → 128 ≤ c → is_narrow (utf8_of c ++ rest) ≡ (leb c 255 && is_narrow rest)
      four (yes h) k l = rw (le-ltb c 128 l, le-ltb c 2048 k, lt-ltb c 65536 h, le-ltb (224 + c / 4096) 196 (omega arith), lt-leb c 255 (omega arith))
      four (no h) k l = rw (le-ltb c 128 l, le-ltb c 2048 k, le-ltb c 65536 (omega arith), le-ltb (240 + c / 262144) 196 (omega arith), lt-leb c 255 (omega arith))

      two : Dec (c < 2048) → Dec (c < 256) → 128 ≤ c → is_narrow (utf8_of c ++ rest) ≡ (leb c 255 && is_narrow rest)
      two (yes h) (yes k) l = rw (le-ltb c 128 l, lt-ltb c 2048 h, lt-ltb (192 + c / 64) 196 (omega arith), small c, le-leb c 255 (omega arith))
      two (yes h) (no k) l = rw (le-ltb c 128 l, lt-ltb c 2048 h, le-ltb (192 + c / 64) 196 (omega arith), lt-leb c 255 (omega arith))
      two (no h) d l = four (dec_lt c 65536) (omega arith) l

      one : Dec (c < 128) → is_narrow (utf8_of c ++ rest) ≡ (leb c 255 && is_narrow rest)
      one (yes h) = rw (lt-ltb c 128 h, lt-ltb c 196 (omega arith), le-leb c 255 (omega arith))
      one (no h) = two (dec_lt c 2048) (dec_lt c 256) (omega arith)

-- ---- text

-- THERE ARE AS MANY CHARACTERS AS CODE POINTS
pub characters_written : (cs : List ℕ) → characters (written cs) ≡ length cs
unfolding written characters
characters_written [] = refl
characters_written (c ∷ cs) = count_one c (written cs) ∙ ap suc (characters_written cs)

-- TEXT IS NARROW WHERE EACH CODE POINT IS AT MOST 255
pub narrow_written : (cs : List ℕ) → is_narrow (written cs) ≡ every (λ (c : ℕ). leb c 255) cs
unfolding written is_narrow every
narrow_written [] = refl
narrow_written (c ∷ cs) = narrow_one c (written cs) ∙ ap (λ (b : Bool). leb c 255 && b) (narrow_written cs)
