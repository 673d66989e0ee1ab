-- The characters of a string, and where in the text they stand.
-- Assumes nothing.
use Rattle.std.specs.Prelude.{ℕ, ◌+◌, ◌*◌, ◌%◌, cond, List, [], ◌∷◌, eqb, ltb, take}
use Rattle.ground.specs.Bytes.{byte_at}
use Rattle.view.specs.Strings.{Part, part_of, part_at}

-- how many bytes a character has in UTF-8, by the first of them (RFC 3629); a byte that begins none counts as one
unfoldable pub size_of : ℕ → ℕ
size_of b = cond (ltb b 192) 1 (cond (ltb b 224) 2 (cond (ltb b 240) 3 4))

-- the four bytes from p on; 0 for each that the text does not have
unfoldable pub four_from : List ℕ → ℕ → List ℕ
four_from t p = byte_at t p ∷ byte_at t (p + 1) ∷ byte_at t (p + 2) ∷ byte_at t (p + 3) ∷ []

-- the character at p: its bytes, an escape undone, and where the next one stands. It stands at its first byte, or at the backslash of its
-- escape; a surrogate pair is one escape and one character (`part_at`)
unfoldable pub character_at : List ℕ → ℕ → Part
character_at t p = let n = size_of (byte_at t p) in cond (eqb n 1) (part_at t p) (part_of (p + n) (take n (four_from t p)))

-- the code point of a character, from its bytes in UTF-8
unfoldable pub code_of : List ℕ → ℕ
code_of [] = 0
code_of (a ∷ []) = a
code_of (a ∷ b ∷ []) = a % 32 * 64 + b % 64
code_of (a ∷ b ∷ c ∷ []) = a % 16 * 4096 + b % 64 * 64 + c % 64
code_of (a ∷ b ∷ c ∷ d ∷ more) = a % 8 * 262144 + b % 64 * 4096 + c % 64 * 64 + d % 64

unfoldable pub code_at : List ℕ → ℕ → ℕ
code_at t p = code_of (character_at t p).bytes
