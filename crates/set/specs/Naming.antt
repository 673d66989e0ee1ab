-- The full name of a row, by the place of its declaration and its number there, from 0, and where it lies in memory.
-- Assumes nothing.
use Rattle.std.specs.Prelude.{ℕ, zero, suc, ◌+◌, Bool, cond, ◌||◌, List, [], ◌∷◌, length}
use Rattle.answer.specs.declared.numbers.Numbers.{Numbers}
use Rattle.answer.specs.Answers.{accepted, refused, Answer, numbers_of_value}
use Rattle.name.specs.Name.{is_empty}
use Rattle.row.specs.Layout.{strings_start}
use Rattle.row.specs.Rows.{Row, strings_of, texts}
use Rattle.row.specs.Sets.{decode}
use Rattle.row.specs.declared.kind.Kind.{Kind}
use Rattle.row.specs.declared.kind.Kind.TheVariants.{Alias}
use Rattle.resolve.specs.Kinds.{is_kind, is_named}
use Rattle.formed.specs.WellFormed.{well_formed}

-- definitions, their aliases and references have a full name
unfoldable pub has_full_name : Kind → Bool
has_full_name k = is_named k || is_kind Alias k

-- the full name of row i of a declaration; no bytes where there is none
unfoldable pub name_among : List Row → ℕ → List ℕ
name_among [] i = []
name_among (r ∷ rows) zero = cond (has_full_name r.kind) r.text []
name_among (r ∷ rows) (suc i) = name_among rows i

unfoldable pub name_in : List (List Row) → ℕ → ℕ → List ℕ
name_in [] place i = []
name_in (d ∷ ds) zero i = name_among d i
name_in (d ∷ ds) (suc place) i = name_in ds place i

-- of memory: no bytes where it is refused
unfoldable pub full_name_in : List ℕ → ℕ → ℕ → List ℕ
full_name_in m place i = cond (well_formed m) (name_in (decode m) place i) []

-- ---- where it lies in memory: a row's strings stand behind the strings of all rows before it, the first at the start of the string area. Equal strings of
-- two rows stand at two places

-- where the full name of row i begins, if the strings of the declaration begin at a place; 0 where there is none
unfoldable pub start_among : ℕ → List Row → ℕ → ℕ
start_among at [] i = 0
start_among at (r ∷ rows) zero = cond (has_full_name r.kind) at 0
start_among at (r ∷ rows) (suc i) = start_among (at + length (strings_of r)) rows i

unfoldable pub start_in : ℕ → List (List Row) → ℕ → ℕ → ℕ
start_in at [] place i = 0
start_in at (d ∷ ds) zero i = start_among at d i
start_in at (d ∷ ds) (suc place) i = start_in (at + length (texts d)) ds place i

-- of memory: 0 where it is refused
unfoldable pub full_name_start : List ℕ → ℕ → ℕ → ℕ
full_name_start m place i = cond (well_formed m) (start_in strings_start (decode m) place i) 0

-- ---- why there is none

-- 01's numbers for each case: 0 and the full name's length, or the refusal's number, place and position
abbrev pub numbers_of_naming : Answer ℕ → Numbers
numbers_of_naming = numbers_of_value

-- 20, then 21 where there is no such place, no such row there, or it has no full name
unfoldable pub naming_of : List ℕ → ℕ → ℕ → Numbers
naming_of m place i =
    cond (well_formed m)
    (cond (is_empty (name_in (decode m) place i)) (refused 21 place 0) (accepted (length (name_in (decode m) place i)) 0 0))
    (refused 20 place 0)
