-- What the laws of canonical text speak of.
-- Assumes nothing.
use Rattle.std.specs.Prelude.{ℕ, Bool, cond, List, [], ◌∷◌}
use Rattle.name.specs.Name.{is_within}
use Rattle.row.specs.Rows.{Row}
use Rattle.row.specs.declared.kind.Kind.TheVariants.{Fixed}
use Rattle.resolve.specs.Kinds.{is_kind}
use Rattle.canonical.specs.Canonical.{is_written}

-- a row without its position, its default with its position, and its decimal's note, precision and scale
unfoldable pub bare : Row → Row
bare r = record { kind = r.kind; depth = r.depth; position = 0; text = r.text; default = []; size = cond (is_kind Fixed r.kind) r.size 0; note = 0; precision = 0; scale = 0 }

-- the rows that are not aliases, bare
unfoldable pub stripped : List Row → List Row
stripped [] = []
stripped (r ∷ rows) = let more = stripped rows in cond (is_written r.kind) (bare r ∷ more) more

-- printable ASCII: from the space to ~
unfoldable pub is_printable : ℕ → Bool
is_printable b = is_within 32 126 b
