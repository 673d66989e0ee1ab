-- Types as rows, and their parts: a type is its own row and all rows behind it.
-- Assumes nothing.
use Rattle.std.specs.Prelude.{ℕ, ◌+◌, Bool, false, not, cond, ◌&&◌, ◌||◌, List, [], ◌∷◌, eqb, ltb}
use Rattle.row.specs.Rows.{Row}
use Rattle.row.specs.declared.kind.Kind.{Kind}
use Rattle.row.specs.declared.kind.Kind.TheVariants.{Map, Alias, FieldAlias}
use Rattle.resolve.specs.Kinds.{is_kind}

-- aliases are no parts
unfoldable pub is_part : Kind → Bool
is_part k = not (is_kind Alias k || is_kind FieldAlias k)

-- of these rows, up to the first that is less deep than d: from each part on that is d deep
unfoldable pub parts_at : ℕ → List Row → List (List Row)
parts_at d [] = []
parts_at d (r ∷ rows) =
    let more = parts_at d rows in
    cond (ltb r.depth d) [] (cond (eqb r.depth d && is_part r.kind) ((r ∷ rows) ∷ more) more)

-- the parts of a row, whose rows behind it are given: a record's fields, an enum's symbols, a union's members, the type of an
-- array's items, of a map's values and of a field
unfoldable pub parts_of : Row → List Row → List (List Row)
parts_of r rest = parts_at (r.depth + 1) rest

-- the first of them
unfoldable pub first : List (List Row) → List Row
first [] = []
first (part ∷ parts) = part

-- the type of an array's items or a map's values
unfoldable pub inside : List Row → List Row
inside [] = []
inside (r ∷ rest) = first (parts_of r rest)

unfoldable pub is_map : List Row → Bool
is_map [] = false
is_map (r ∷ rest) = is_kind Map r.kind
