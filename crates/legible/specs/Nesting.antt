-- How deep the brackets of a declaration's canonical text nest, by its rows.
-- Assumes nothing.
use Rattle.std.specs.Prelude.{ℕ, zero, suc, ◌+◌, max, cond, ◌||◌, List, [], ◌∷◌, map, length}
use Rattle.row.specs.Rows.{Row}
use Rattle.row.specs.declared.kind.Kind.{Kind}
use Rattle.row.specs.declared.kind.Kind.TheVariants.{Union, Record, Enum, Fixed}
use Rattle.resolve.specs.Kinds.{is_kind, has_one}
use Rattle.canonical.specs.Canonical.{parts_of}

-- the brackets that stand around the parts of a row: an array in an object, one of both, or none
unfoldable pub brackets : Kind → ℕ
brackets k = cond (is_kind Record k || is_kind Enum k) 2 (cond (has_one k || is_kind Union k || is_kind Fixed k) 1 0)

unfoldable pub most : List ℕ → ℕ
most [] = 0
most (n ∷ ns) = max n (most ns)

-- of the first row with what stands under it, in which n rows may stand under each other
unfoldable pub nesting_of : ℕ → List Row → ℕ
nesting_of zero rows = 0
nesting_of (suc n) [] = 0
nesting_of (suc n) (r ∷ rows) = brackets r.kind + most (map (nesting_of n) (parts_of r.depth rows))

-- of a declaration
unfoldable pub nesting : List Row → ℕ
nesting rows = nesting_of (length rows) rows

-- the depth of its deepest row
unfoldable pub deepest_row : List Row → ℕ
deepest_row rows = most (map (λ (r : Row). r.depth) rows)
