-- What private functions write.
-- Assumes nothing.
use Rattle.std.specs.Prelude.{ℕ, ◌+◌, ◌-◌, ◌*◌, Bool, cond, ◌&&◌, List, [], map, eqb, ltb}
use Rattle.row.specs.Layout.{row_limit, string_limit}
use Rattle.row.specs.Sets.{rows_from}
use Rattle.row.specs.Memory.{entry_at}
use Rattle.row.specs.declared.kind.Kind.{Kind}
use Rattle.resolve.specs.Kinds.{is_primitive}
use Rattle.canonical.specs.Pieces.{opening}
use Rattle.canonical.specs.Canonical.{is_written, parts_of, listed, text_of}

-- a primitive's word; no other kind has one
unfoldable pub word_of : Kind → List ℕ
word_of kind = cond (is_primitive kind) (opening kind [] 0) []

-- the text of row i, of the rows before `end`
unfoldable pub piece_text : List ℕ → ℕ → ℕ → ℕ → List ℕ
piece_text m left i end = text_of left (rows_from m (end - i) i)

-- the texts of the parts of a row of depth d, whose rows start at `start`
unfoldable pub parts_text : List ℕ → ℕ → ℕ → ℕ → ℕ → List ℕ
parts_text m left start end d = listed (map (text_of left) (parts_of d (rows_from m (end - start) start)))

-- row i is one of those that stand under a row of depth d
unfoldable pub is_under : List ℕ → ℕ → ℕ → ℕ → Bool
is_under m end d i = ltb i end && ltb d (entry_at m i).depth

-- and one of its parts
unfoldable pub is_part : List ℕ → ℕ → ℕ → Bool
is_part m d i = eqb (entry_at m i).depth (d + 1) && is_written (entry_at m i).kind

-- a row takes at most so many bytes of a text, beside its string
abbrev pub row_cost : ℕ
row_cost = 64

-- no text of a well-formed set is longer
abbrev pub text_limit : ℕ
text_limit = row_cost * row_limit + string_limit
