-- What the value at a place of a text is. The text was scanned, so a value's first byte tells.
-- Assumes nothing.
use Rattle.std.specs.Prelude.{ℕ, suc, ◌+◌, ◌-◌, Bool, true, false, cond, ◌&&◌, ◌||◌, List, [], ◌∷◌, eqb, leb, ltb, Option, Some, None}
use Rattle.ground.specs.Bytes.{byte_at}
use Rattle.json_scan.specs.Json.{is_digit}
use Rattle.view.specs.Size.{size_of}
use Rattle.view.specs.Strings.{string_at}

-- ---- by the first byte

-- the n of null
unfoldable pub is_null : List ℕ → ℕ → Bool
is_null t p = eqb (byte_at t p) 110

-- the t of true or the f of false
unfoldable pub is_boolean : List ℕ → ℕ → Bool
is_boolean t p = eqb (byte_at t p) 116 || eqb (byte_at t p) 102

-- a minus sign or a digit
unfoldable pub is_number : List ℕ → ℕ → Bool
is_number t p = eqb (byte_at t p) 45 || is_digit (byte_at t p)

-- a quote
unfoldable pub is_string : List ℕ → ℕ → Bool
is_string t p = eqb (byte_at t p) 34

-- a bracket
unfoldable pub is_array : List ℕ → ℕ → Bool
is_array t p = eqb (byte_at t p) 91

-- a brace
unfoldable pub is_object : List ℕ → ℕ → Bool
is_object t p = eqb (byte_at t p) 123

-- ---- whole numbers

-- a number of digits alone that is at most n
unfoldable pub up_to : ℕ → Option ℕ → Bool
up_to n (Some v) = leb v n
up_to n None = false

-- a whole number from -half up to half - 1: digits alone, as many as there may be, or a minus sign and digits alone; -0 is one
unfoldable pub is_whole : ℕ → List ℕ → ℕ → Bool
is_whole half t p = cond (eqb (byte_at t p) 45) (up_to half (size_of t (p + 1))) (up_to (half - 1) (size_of t p))

-- ---- strings that stand for bytes, a character up to U+00FF for each

-- UTF-8: a byte from 0x80 to 0xBF goes on with the character before it
unfoldable pub goes_on : ℕ → Bool
goes_on b = leb 128 b && ltb b 192

-- how many characters these bytes are: as many as begin one
unfoldable pub characters : List ℕ → ℕ
characters [] = 0
characters (b ∷ bs) = let more = characters bs in cond (goes_on b) more (suc more)

-- UTF-8: a character above U+00FF begins with a byte from 0xC4 on, and no byte of another is that large
unfoldable pub is_narrow : List ℕ → Bool
is_narrow [] = true
is_narrow (b ∷ bs) = ltb b 196 && is_narrow bs

-- a string of characters up to U+00FF
unfoldable pub is_bytes : List ℕ → ℕ → Bool
is_bytes t p = is_string t p && is_narrow (string_at t p)

-- the same, with exactly so many characters
unfoldable pub is_fixed : ℕ → List ℕ → ℕ → Bool
is_fixed size t p = is_bytes t p && eqb (characters (string_at t p)) size
