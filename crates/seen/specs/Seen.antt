-- A table of the marks of strings: what was entered is marked. What was not may be marked too.
-- Assumes nothing.
use Rattle.std.specs.Prelude.{ℕ, zero, suc, ◌+◌, ◌*◌, ◌/◌, ◌%◌, ◌<◌, ◌≡◌, Bool, true, false, cond, Option, Some, None, List, eqb, length, get_or, set}
use Rattle.name.specs.Name.{is_one_of}
use Rattle.view.specs.Marks.{mark_of}

-- a mark is looked for at the places of numbers below this, 2^32
abbrev pub span : ℕ
span = 4294967296

-- memory that may be a table
pub record Sized (table : List ℕ) : Type 0 where
  pub some : 0 < length table
  pub most : length table < span

-- the place of a number below `span` in a table of so many places
unfoldable pub place_in : ℕ → ℕ → ℕ
place_in size x = x * size / span

-- the next number lies at the mark's own distance, an odd number of places: where their number is a power of two all are passed before one is met again
abbrev pub next_of : ℕ → ℕ → ℕ → ℕ
next_of size m x = (x + (m / 65536 % 4096 * 2 + 1) * (span / size)) % span

-- from a number on: the empty place, and none where the mark is met before one. After n places it counts as marked
unfoldable pub from : List ℕ → ℕ → ℕ → ℕ → Option ℕ
from table m zero x = None
from table m (suc n) x =
    let at = place_in (length table) x in
    let on = from table m n (next_of (length table) m x) in
    cond (eqb (get_or table at 0) m) None (cond (eqb (get_or table at 0) 0) (Some at) on)

-- 0 is an empty place, and so no mark that could be entered: it counts as marked
unfoldable pub free_place : List ℕ → ℕ → Option ℕ
free_place table m = let free = from table m (length table) (m / span % span) in cond (eqb m 0) None free

-- where no place is free for it a mark is there
abbrev pub is_there : Option ℕ → Bool
is_there None = true
is_there (Some at) = false

unfoldable pub is_marked : List ℕ → ℕ → Bool
is_marked table m = is_there (free_place table m)

-- a mark that is not there goes to the empty place
abbrev pub put : List ℕ → ℕ → Option ℕ → List ℕ
put table m None = table
put table m (Some at) = set table at m

unfoldable pub entered : List ℕ → ℕ → List ℕ
entered table m = put table m (free_place table m)

-- each of the strings is marked
pub record Holds (table : List ℕ) (taken : List (List ℕ)) : Type 0 where
  pub holds : (x : List ℕ) → is_one_of taken x ≡ true → is_marked table (mark_of x) ≡ true
