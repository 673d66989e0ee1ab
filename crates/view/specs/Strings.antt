-- The bytes of a string, escapes undone.
-- Assumes nothing.
use Rattle.std.specs.Prelude.{ℕ, zero, suc, ◌+◌, ◌-◌, ◌*◌, ◌/◌, ◌%◌, ◌<◌, ◌≤◌, ◌≡◌, Bool, cond, ◌||◌, List, [], ◌∷◌, ◌++◌, eqb, ltb, leb, length, take, drop, Option, Some, None}
use Rattle.ground.specs.Bytes.{byte_at, part}
use Rattle.view.specs.Ends.{closing_of}
use Rattle.view.specs.declared.strings.Piece.{Piece}
use Rattle.view.specs.declared.strings.Cursor.{Cursor}

-- the value of a hexadecimal digit
unfoldable pub hex_of : ℕ → ℕ
hex_of b =
    cond (ltb b 48) 0
    (cond (leb b 57) (b - 48)
    (cond (ltb b 65) 0 (cond (leb b 70) (b - 55) (cond (ltb b 97) 0 (cond (leb b 102) (b - 87) 0)))))

-- the number of four hexadecimal digits
unfoldable pub unit_at : List ℕ → ℕ → ℕ
unit_at t p = hex_of (byte_at t p) * 4096 + hex_of (byte_at t (p + 1)) * 256 + hex_of (byte_at t (p + 2)) * 16 + hex_of (byte_at t (p + 3))

-- a character in UTF-8
unfoldable pub utf8_of : ℕ → List ℕ
utf8_of c =
    cond (ltb c 128) (c ∷ [])
    (cond (ltb c 2048) ((192 + c / 64) ∷ (128 + c % 64) ∷ [])
    (cond (ltb c 65536) ((224 + c / 4096) ∷ (128 + c / 64 % 64) ∷ (128 + c % 64) ∷ [])
    ((240 + c / 262144) ∷ (128 + c / 4096 % 64) ∷ (128 + c / 64 % 64) ∷ (128 + c % 64) ∷ [])))

-- what a letter after a backslash stands for: b, f, n, r, t, or itself
unfoldable pub short_of : ℕ → ℕ
short_of b =
    cond (eqb b 98) 8 (cond (eqb b 102) 12 (cond (eqb b 110) 10 (cond (eqb b 114) 13 (cond (eqb b 116) 9 b))))

-- a byte as it stands, or one escape: its bytes, and where the next one stands
pub record Part : Type 0 where
  pub next : ℕ
  pub bytes : List ℕ

abbrev pub part_of : ℕ → List ℕ → Part
part_of p bs = record { next = p; bytes = bs }

-- a surrogate pair is one character: the first unit lies in d800 to dbff
unfoldable pub part_at : List ℕ → ℕ → Part
part_at t p =
    let u = unit_at t (p + 2) in
    let pair = part_of (p + 12) (utf8_of (65536 + u % 1024 * 1024 + unit_at t (p + 8) % 1024)) in
    let single = part_of (p + 6) (utf8_of u) in
    let unicode = cond (eqb (u / 1024) 54) pair single in
    let letter = part_of (p + 2) (short_of (byte_at t (p + 1)) ∷ []) in
    let escape = cond (eqb (byte_at t (p + 1)) 117) unicode letter in
    cond (eqb (byte_at t p) 92) escape (part_of (p + 1) (byte_at t p ∷ []))

-- the closing quote; on text that was not scanned also a byte below 32, and the text's end
unfoldable pub is_stop : ℕ → Bool
is_stop b = eqb b 34 || ltb b 32

unfoldable pub string_from : List ℕ → ℕ → ℕ → List ℕ
string_from t zero p = []
string_from t (suc n) p =
    let more = (part_at t p).bytes ++ string_from t n (part_at t p).next in
    cond (is_stop (byte_at t p)) [] more

-- the bytes from p on up to the closing quote; there are no more parts than the text has bytes (`bytes_next`)
unfoldable pub bytes_from : List ℕ → ℕ → List ℕ
bytes_from t p = string_from t (suc (length t)) p

-- the bytes of the string whose opening quote is at p; what is no string has none
unfoldable pub string_at : List ℕ → ℕ → List ℕ
string_at t p = cond (eqb (byte_at t p) 34) (bytes_from t (p + 1)) []

-- ---- what the code holds on the way

-- in a string: the bytes from p up to q stand for themselves
pub record Plainly (t : List ℕ) (p q : ℕ) : Type 0 where
  pub ahead : p ≤ q
  pub within : q ≤ length t
  pub bytes : bytes_from t p ≡ part t p (q - p) ++ bytes_from t q
  pub closing : closing_of t 1 0 q ≡ closing_of t 1 0 p

-- a part as a piece of up to four bytes
pub record Spells (x : Piece) (y : Part) : Type 0 where
  pub is : part_of x.next (take x.n x.bytes) ≡ y
  pub some : 0 < x.n
  pub few : x.n ≤ 4
  pub four : length x.bytes ≡ 4

-- what is left of the string: of the part at c's place the first bytes are passed
unfoldable pub left_of : List ℕ → Cursor → List ℕ
left_of t c = drop c.passed (bytes_from t c.at)

-- a byte of the part is left
pub record Within (t : List ℕ) (c : Cursor) : Type 0 where
  pub within : c.passed < length (part_at t c.at).bytes

-- the first byte that is left, and what is left behind it
abbrev pub Reads' : List ℕ → List ℕ → Option (ℕ × Cursor) → Type 0
Reads' t left (Some (b, c)) = (left ≡ b ∷ left_of t c) × Within t c
Reads' t left None = left ≡ []

pub record Reads (t left : List ℕ) (s : Option (ℕ × Cursor)) : Type 0 where
  pub reads : Reads' t left s
