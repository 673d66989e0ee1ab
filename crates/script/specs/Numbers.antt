-- Decimal numbers, read and written.
-- Assumes nothing.
use Rattle.std.specs.Prelude.{ℕ, zero, suc, ◌+◌, ◌-◌, ◌*◌, ◌/◌, ◌%◌, Bool, cond, ◌&&◌, List, [], ◌∷◌, ◌++◌, leb, ltb, ℤ, pos, negsuc, Option, Some, None}

-- is b from lo to hi?
abbrev pub inside : ℕ → ℕ → ℕ → Bool
inside lo hi b = leb lo b && leb b hi

abbrev pub is_digit : ℕ → Bool
is_digit b = inside 48 57 b

-- the number, where it fits 64 bits
unfoldable pub fitting : ℕ → Option ℕ
fitting v = cond (ltb v 18446744073709551616) (Some v) None

-- v so far, and the digits that are left
unfoldable pub number_from : ℕ → List ℕ → Option ℕ
number_from v [] = fitting v
number_from v (b ∷ bs) = let more = number_from (v * 10 + (b - 48)) bs in cond (is_digit b) more None

-- one digit or more, and nothing else
unfoldable pub number_of : List ℕ → Option ℕ
number_of [] = None
number_of (b ∷ bs) = number_from 0 (b ∷ bs)

-- a number that fits a byte
unfoldable pub octet_of : Option ℕ → Option ℕ
octet_of None = None
octet_of (Some v) = cond (ltb v 256) (Some v) None

-- the digits of n, where at most k are needed; no 0 in front
unfoldable pub digits_of : ℕ → ℕ → List ℕ
digits_of zero n = []
digits_of (suc k) n = let front = digits_of k (n / 10) in cond (ltb n 10) ((48 + n) ∷ []) (front ++ ((48 + n % 10) ∷ []))

-- a number of 64 bits has at most 20 digits
unfoldable pub decimal_of : ℕ → List ℕ
decimal_of n = digits_of 20 n

abbrev pub signed_of : ℤ → List ℕ
signed_of (pos n) = decimal_of n
signed_of (negsuc n) = 45 ∷ decimal_of (suc n)
