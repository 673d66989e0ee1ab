-- A size in decimal, most significant digit first, no leading zero (INTEGERS).
-- Assumes nothing.
use Rattle.std.specs.Prelude.{ℕ, zero, suc, ◌+◌, ◌/◌, ◌%◌, cond, List, [], ◌∷◌, ◌++◌, ltb}

abbrev pub digit : ℕ → List ℕ
digit d = (48 + d) ∷ []

-- at most k digits: the leading ones before the last
unfoldable pub digits_of : ℕ → ℕ → List ℕ
digits_of zero n = []
digits_of (suc k) n = let leading = digits_of k (n / 10) in cond (ltb n 10) (digit n) (leading ++ digit (n % 10))

-- 2^64 - 1 has twenty
unfoldable pub decimal : ℕ → List ℕ
decimal n = digits_of 20 n
