-- The mark of a string: a number made of its length, its first bytes and its last. Equal strings have equal marks, and that is all that counts.
-- Assumes nothing.
use Rattle.std.specs.Prelude.{ℕ, ◌+◌, ◌-◌, ◌*◌, ◌/◌, ◌%◌, cond, List, [], ◌∷◌, ltb, length, get_or}
use Rattle.chains.specs.Chains.{slots}

-- two bytes from a place on, and eight, lowest first
abbrev pub two_at : List ℕ → ℕ → ℕ
two_at s at = get_or s at 0 + 256 * get_or s (at + 1) 0

unfoldable pub eight_at : List ℕ → ℕ → ℕ
eight_at s at = two_at s at + 65536 * two_at s (at + 2) + 4294967296 * two_at s (at + 4) + 281474976710656 * two_at s (at + 6)

-- all bytes of a string of less than eight, h so far
unfoldable pub short_from : ℕ → List ℕ → ℕ
short_from h [] = h
short_from h (b ∷ bs) = short_from (h % 72057594037927936 * 256 + b) bs

-- a number over as many as a table has slots, by two stretches of the bits of two products
unfoldable pub spread : ℕ → ℕ
spread n = n % 4294967296 * 2654435761 / 2097152 % slots + n / 4294967296 * 2246822519 / 2097152 % slots

unfoldable pub mark_of : List ℕ → ℕ
mark_of s =
    length s % slots
    + cond (ltb (length s) 8) (spread (short_from 0 s)) (spread (eight_at s 0) + spread (eight_at s (length s - 8)))
