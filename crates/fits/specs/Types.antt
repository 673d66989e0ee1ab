-- Types as rows: a type is its own row and all rows behind it.
-- Assumes nothing.
use Rattle.std.specs.Prelude.{ℕ, ◌+◌, Bool, not, cond, List, [], ◌∷◌, eqb, leb}
use Rattle.name.specs.Name.{is_empty}
use Rattle.row.specs.Rows.{Row}
use Rattle.row.specs.declared.kind.Kind.TheVariants.{FieldAlias}
use Rattle.resolve.specs.Kinds.{is_kind}

-- of the rows behind a row of depth d, from each on that stands directly under it
unfoldable pub parts_under : ℕ → List Row → List (List Row)
parts_under d [] = []
parts_under d (r ∷ rows) =
    let more = parts_under d rows in
    cond (leb r.depth d) [] (cond (eqb r.depth (d + 1)) ((r ∷ rows) ∷ more) more)

-- of the rows behind a field: its type stands behind its aliases
unfoldable pub type_of : List Row → List Row
type_of [] = []
type_of (r ∷ rows) = cond (is_kind FieldAlias r.kind) (type_of rows) (r ∷ rows)

-- has a field a default of its own?
unfoldable pub has_default : Row → Bool
has_default r = not (is_empty r.default)
