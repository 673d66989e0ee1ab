-- Bytes in lowercase hexadecimal digits, two each; no bytes are written `-`.
-- Assumes nothing.
use Rattle.std.specs.Prelude.{ℕ, ◌+◌, ◌-◌, ◌*◌, ◌/◌, ◌%◌, Bool, cond, ◌&&◌, ◌||◌, List, [], ◌∷◌, eqb, ltb, length, Option, Some, None}
use Rattle.std.specs.List.{list_all}
use Rattle.ground.specs.Ascii.{ascii}
use Rattle.ground.specs.Bytes.{same}
use Rattle.script.specs.Numbers.{inside, is_digit}

abbrev pub is_letter : ℕ → Bool
is_letter b = inside 97 102 b

abbrev pub is_hex : ℕ → Bool
is_hex b = is_digit b || is_letter b

-- what a digit stands for; 0 for any other byte
abbrev pub nibble : ℕ → ℕ
nibble b = cond (is_digit b) (b - 48) (cond (is_letter b) (b - 87) 0)

abbrev pub all_hex : List ℕ → Bool
all_hex w = list_all (λ b. is_hex b) w

-- the bytes that pairs of digits stand for
unfoldable pub bytes_of : List ℕ → List ℕ
bytes_of [] = []
bytes_of (a ∷ []) = []
bytes_of (a ∷ b ∷ s) = (nibble a * 16 + nibble b) ∷ bytes_of s

-- `-`, or one pair or more
unfoldable pub is_bytes : List ℕ → Bool
is_bytes w = same w (ascii "-") || (ltb 0 (length w) && eqb (length w % 2) 0 && all_hex w)

-- how many bytes a word stands for, if it stands for bytes
unfoldable pub unhexed : List ℕ → Option ℕ
unhexed w = cond (is_bytes w) (Some (length (bytes_of w))) None

-- its bytes, none where it stands for none
unfoldable pub word_bytes : List ℕ → List ℕ
word_bytes w = cond (is_bytes w) (bytes_of w) []

-- the digit of a number below 16
abbrev pub glyph : ℕ → ℕ
glyph d = cond (ltb d 10) (48 + d) (87 + d)

unfoldable pub pairs_of : List ℕ → List ℕ
pairs_of [] = []
pairs_of (b ∷ bs) = glyph (b / 16) ∷ glyph (b % 16) ∷ pairs_of bs

unfoldable pub hex_of : List ℕ → List ℕ
hex_of [] = ascii "-"
hex_of (b ∷ bs) = pairs_of (b ∷ bs)
