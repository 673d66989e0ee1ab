-- Numbers in Avro's binary encoding: groups of seven bits, the lowest first, each but the last with the top bit; then zig-zag.
-- Assumes nothing.
use Rattle.std.specs.Prelude.{ℕ, zero, suc, ◌+◌, ◌-◌, ◌*◌, ◌/◌, ◌%◌, ◌^◌, Bool, cond, List, [], ◌∷◌, Result, Ok, Err, eqb, ltb, drop}
use Rattle.binary.specs.declared.number.NumberError.{NumberError}
use Rattle.binary.specs.declared.number.NumberError.TheVariants.{Cut, Wrong}

-- what some bytes begin with: a number and how many groups it has, or the input ends before its last group, or there are more groups than may be
pub data Groups : Type 0 where
  number : ℕ → ℕ → Groups
  cut : Groups
  too_many : Groups

-- one group more, below the others: b, which has the top bit
unfoldable pub below : ℕ → Groups → Groups
below b (number v n) = number (b - 128 + 128 * v) (suc n)
below b cut = cut
below b too_many = too_many

-- at most g groups
unfoldable pub groups : ℕ → List ℕ → Groups
groups zero bytes = too_many
groups (suc g) [] = cut
groups (suc g) (b ∷ bytes) = let more = groups g bytes in cond (ltb b 128) (number b 1) (below b more)

-- a number as it is written and the place behind it, or why there is none
abbrev pub Number : Type 0
Number = Result (ℕ × ℕ) NumberError

-- a number that stands at a place: it must be below the limit; the place behind it comes with it
unfoldable pub within : ℕ → ℕ → Groups → Number
within limit at (number v n) = cond (ltb v limit) (Ok (v, at + n)) (Err Wrong)
within limit at cut = Err Cut
within limit at too_many = Err Wrong

-- an int: five groups at most, 32 bits
unfoldable pub int_at : List ℕ → ℕ → Number
int_at bytes at = within (2 ^ 32) at (groups 5 (drop at bytes))

-- a long: ten groups at most, 64 bits
unfoldable pub long_at : List ℕ → ℕ → Number
long_at bytes at = within (2 ^ 64) at (groups 10 (drop at bytes))

-- zig-zag: an even v stands for v / 2, an odd one for - (v + 1) / 2
unfoldable pub is_negative : ℕ → Bool
is_negative v = eqb (v % 2) 1

unfoldable pub absolute : ℕ → ℕ
absolute v = v / 2 + v % 2
