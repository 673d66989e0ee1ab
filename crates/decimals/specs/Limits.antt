-- Decimals that fit, Avro 1.12.0 "Decimal" and request A10: how many digits a decimal over a fixed of n bytes may have.
-- Assumes nothing.
use Rattle.std.specs.Prelude.{ℕ, zero, suc, ◌+◌, ◌*◌, ◌-◌, ◌^◌, ◌<◌, ◌≤◌, List, [], ◌∷◌, get_or}

-- the largest number that n bytes hold, one bit of them being the sign
unfoldable pub largest_number : ℕ → ℕ
largest_number n = 2 ^ (8 * n - 1) - 1

-- a precision is the largest that fits n bytes: 10 to it does not exceed their largest number, and 10 to one more does
pub record Largest (n precision : ℕ) : Type 0 where
  pub fits : 10 ^ precision ≤ largest_number n
  pub no_more : largest_number n < 10 ^ (precision + 1)

-- the limits of the sizes from 1 to 16
unfoldable pub limits : List ℕ
limits = 2 ∷ 4 ∷ 6 ∷ 9 ∷ 11 ∷ 14 ∷ 16 ∷ 18 ∷ 21 ∷ 23 ∷ 26 ∷ 28 ∷ 31 ∷ 33 ∷ 35 ∷ 38 ∷ []

-- the limit of any size: 0 allows none, and above 16 it stays 38
unfoldable pub limit_of : ℕ → ℕ
limit_of zero = 0
limit_of (suc n) = get_or limits n 38
