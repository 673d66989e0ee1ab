-- The Parsing Canonical Form of Avro 1.12.0 over a declaration's rows in preorder.
-- Assumes nothing.
use Rattle.std.specs.Prelude.{ℕ, zero, suc, ◌+◌, Bool, not, cond, ◌&&◌, ◌||◌, List, [], ◌∷◌, ◌++◌, map, eqb, length}
use Rattle.ground.specs.Ascii.{ascii}
use Rattle.row.specs.Rows.{Row}
use Rattle.row.specs.declared.kind.Kind.{Kind}
use Rattle.row.specs.declared.kind.Kind.TheVariants.{Alias, FieldAlias}
use Rattle.resolve.specs.Kinds.{is_kind}
use Rattle.resolve.specs.Rules.{under}
use Rattle.canonical.specs.Pieces.{opening, closing}

-- STRIP: aliases are dropped
unfoldable pub is_written : Kind → Bool
is_written k = not (is_kind Alias k || is_kind FieldAlias k)

-- the rows at a depth that are written, each with all rows behind it
unfoldable pub starts_at : ℕ → List Row → List (List Row)
starts_at d [] = []
starts_at d (r ∷ rows) = let more = starts_at d rows in cond (eqb r.depth d && is_written r.kind) ((r ∷ rows) ∷ more) more

-- the parts of a row of depth d: of the rows that stand under it, those one deeper
unfoldable pub parts_of : ℕ → List Row → List (List Row)
parts_of d rows = starts_at (d + 1) (under d rows)

-- with commas between
unfoldable pub listed : List (List ℕ) → List ℕ
listed [] = []
listed (p ∷ []) = p
listed (p ∷ q ∷ ps) = p ++ (ascii "," ++ listed (q ∷ ps))

-- the text of the first row with what stands under it, in which n rows may stand under each other
unfoldable pub text_of : ℕ → List Row → List ℕ
text_of zero rows = []
text_of (suc n) [] = []
text_of (suc n) (r ∷ rows) =
    opening r.kind r.text r.size
    ++ (listed (map (text_of n) (parts_of r.depth rows)) ++ closing r.kind)

-- of a declaration: no row has more rows above it than there are
unfoldable pub canonical_of : List Row → List ℕ
canonical_of rows = text_of (length rows) rows
