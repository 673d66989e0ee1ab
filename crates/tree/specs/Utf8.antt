-- UTF-8 by RFC 3629, section 3: the bytes that write a character's number, and the number that bytes write.
-- Assumes nothing: these are definitions.
use Rattle.std.specs.Prelude.{ℕ, ◌+◌, ◌-◌, ◌*◌, ◌/◌, ◌%◌, ◌≤◌, ◌<◌, cond, List, [], ◌∷◌, leb}

-- a character's number is below 0x110000, and no half of a pair
pub record Scalar (c : ℕ) : Type 0 where
  pub below : c < 0x110000
  pub whole : 0xD800 ≤ c → c ≤ 0xDFFF → ⊥

-- 0xxxxxxx; 110xxxxx 10xxxxxx; 1110xxxx 10xxxxxx 10xxxxxx; 11110xxx 10xxxxxx 10xxxxxx 10xxxxxx
unfoldable pub utf8 : ℕ → List ℕ
utf8 c =
    cond (leb c 0x7F) (c ∷ [])
    (cond (leb c 0x7FF) ((0xC0 + c / 0x40) ∷ (0x80 + c % 0x40) ∷ [])
    (cond (leb c 0xFFFF) ((0xE0 + c / 0x1000) ∷ (0x80 + c / 0x40 % 0x40) ∷ (0x80 + c % 0x40) ∷ [])
    ((0xF0 + c / 0x40000) ∷ (0x80 + c / 0x1000 % 0x40) ∷ (0x80 + c / 0x40 % 0x40) ∷ (0x80 + c % 0x40) ∷ [])))

-- the number in the bits x of one to four bytes
unfoldable pub number_of : List ℕ → ℕ
number_of [] = 0
number_of (a ∷ []) = a
number_of (a ∷ b ∷ []) = (a - 0xC0) * 0x40 + (b - 0x80)
number_of (a ∷ b ∷ c ∷ []) = (a - 0xE0) * 0x1000 + (b - 0x80) * 0x40 + (c - 0x80)
number_of (a ∷ b ∷ c ∷ d ∷ s) = (a - 0xF0) * 0x40000 + (b - 0x80) * 0x1000 + (c - 0x80) * 0x40 + (d - 0x80)
