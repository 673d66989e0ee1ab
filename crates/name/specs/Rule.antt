-- The rule for one byte, and where the last dot stands: for functions that work byte by byte. No promise to a user rests on
-- these. Assumes nothing: these are definitions.
use Rattle.std.specs.Prelude.{ℕ, ◌≡◌, ◌+◌, ◌<◌, Bool, false, not, cond, ◌&&◌, List, eqb, length, drop, slice_index}
use Rattle.name.specs.Name.{dot, is_first, is_later, has_dot}

-- b may come next: `first` where a simple name must start, `dots` where dots may join several
unfoldable pub may_stand : Bool → Bool → ℕ → Bool
may_stand dots first b = cond (eqb b dot) (not first && dots) (cond first (is_first b) (is_later b))

-- the last dot stands at i: a dot is there, and none behind it
abbrev pub IsLastDot : List ℕ → ℕ → Type 0
IsLastDot s i = (i < length s) × (slice_index s i ≡ dot) × (has_dot (drop (i + 1) s) ≡ false)
