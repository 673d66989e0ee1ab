-- What the code holds on the way: types by the numbers of their rows in memory, a table of verdicts, and one of definitions.
-- Assumes nothing.
use Rattle.std.specs.Prelude.{ℕ, suc, ◌+◌, ◌-◌, ◌*◌, ◌≡◌, Bool, true, false, cond, ◌&&◌, ◌||◌, List, [], ◌∷◌, ltb, get_or, set}
use Rattle.row.specs.Rows.{Row}
use Rattle.row.specs.Sets.{rows_from}
use Rattle.row.specs.Memory.{text_at}
use Rattle.row.specs.declared.kind.Kind.{Kind}
use Rattle.row.specs.declared.kind.Kind.TheVariants.{Array, Map, Record}
use Rattle.resolve.specs.Kinds.{is_kind}
use Rattle.resolve.specs.Resolve.{definition_in}
use Rattle.fits.specs.Types.{parts_under}
use Rattle.fits.specs.Fits.{plain_fits, fits}

-- the kinds whose values have values inside
unfoldable pub is_nested : Kind → Bool
is_nested k = is_kind Array k || is_kind Map k || is_kind Record k

-- ---- the first n rows of memory

-- the type at row i
abbrev pub type_at : List ℕ → ℕ → ℕ → List Row
type_at m n i = rows_from m (n - i) i

-- a part at row i, if it is one of them, and the parts behind it that stand under the same row of depth d
unfoldable pub parts_from : List ℕ → ℕ → ℕ → ℕ → List (List Row)
parts_from m n d i = cond (ltb i n) (type_at m n i ∷ parts_under d (type_at m n (i + 1))) []

-- which values fit, with so much nesting left
abbrev pub fitting : List ℕ → ℕ → List ℕ → ℕ → List Row → ℕ → Bool
fitting m n t left = fits (rows_from m n 0) t left

-- ---- verdicts: does the value at p fit the type at row r, which is no union and no reference?

-- a verdict, with the nesting that was left where it was found; 0 is none
unfoldable pub mark : ℕ → Bool → ℕ
mark left true = left * 2 + 2
mark left false = left * 2 + 1

-- has the table a place for row r of n at p? Values stand at the first 256 places
unfoldable pub is_kept : ℕ → ℕ → ℕ → Bool
is_kept n r p = ltb r n && ltb p 256

-- what it holds there
unfoldable pub entry_at : ℕ → List ℕ → ℕ → ℕ → ℕ
entry_at n table r p = cond (is_kept n r p) (get_or table (p * n + r) 0) 0

-- the table with v held there
unfoldable pub noted : ℕ → List ℕ → ℕ → ℕ → ℕ → List ℕ
noted n table r p v = cond (is_kept n r p) (set table (p * n + r) v) table

-- each verdict that the table holds is true
pub record Verdicts (m : List ℕ) (n : ℕ) (t table : List ℕ) : Type 0 where
  pub says : (left r p : ℕ) (b : Bool) → entry_at n table r p ≡ mark left b → plain_fits t (fitting m n t left) (type_at m n r) p ≡ b

-- ---- definitions: which row defines what row i refers to?

-- an entry is 0, or 1 + that row; each definition that the table holds is the one
pub record Found (m : List ℕ) (n : ℕ) (found : List ℕ) : Type 0 where
  pub says : (i d : ℕ) → get_or found i 0 ≡ suc d → type_at m n d ≡ definition_in (text_at m i) (rows_from m n 0)
