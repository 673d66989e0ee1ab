-- Strings of bytes: one byte, a part, a store, and two tests.
-- Assumes nothing.
use Rattle.std.specs.Prelude.{ℕ, Bool, true, false, ◌&&◌, List, [], ◌∷◌, eqb, take, drop, get_or}
use Rattle.std.proofs.lemmas.List.Edits.{sets}

-- the byte at a place, 0 past the end
unfoldable pub byte_at : List ℕ → ℕ → ℕ
byte_at s at = get_or s at 0

-- the n bytes of s from a place on
unfoldable pub part : List ℕ → ℕ → ℕ → List ℕ
part s at n = take n (drop at s)

-- s with the bytes bs stored from a place on; those that have no room are dropped
unfoldable pub store : List ℕ → ℕ → List ℕ → List ℕ
store s at bs = sets s at bs

-- are the two the same bytes?
unfoldable pub same : List ℕ → List ℕ → Bool
same [] [] = true
same [] (y ∷ ys) = false
same (x ∷ xs) [] = false
same (x ∷ xs) (y ∷ ys) = eqb x y && same xs ys

-- is every byte 0?
unfoldable pub all_zero : List ℕ → Bool
all_zero [] = true
all_zero (x ∷ xs) = eqb x 0 && all_zero xs
