-- The tests that say in one pass whether bytes are an encoding.
-- Assumes nothing.
use Rattle.std.specs.Prelude.{ℕ, zero, suc, ◌+◌, ◌-◌, ◌*◌, Bool, ◌&&◌, cond, List, eqb, leb, length, drop}
use Rattle.ground.specs.Bytes.{part, all_zero}
use Rattle.row.specs.Kinds.{kind_number, kind_of}
use Rattle.row.specs.Numbers.{number}
use Rattle.row.specs.Layout.{declaration_limit, row_limit, string_limit, header_size, row_size, rows_start, strings_start, layout_length}
use Rattle.row.specs.Rows.{text_start, strings_length}
use Rattle.row.specs.Sets.{count_in}
use Rattle.row.specs.Memory.{rows_before}

-- the row that bytes start with has a kind, and its strings lie from o on in the string area
unfoldable pub tidy_row : ℕ → List ℕ → Bool
tidy_row o l = eqb (kind_number (kind_of (number l 0 1))) (number l 0 1) && eqb (text_start l) o && leb (o + strings_length l) string_limit

-- where the strings of k rows end, the first of which lies from o on; past the limit where a row is not so
unfoldable pub tidy_end : ℕ → ℕ → List ℕ → ℕ
tidy_end zero o l = o
tidy_end (suc k) o l = let rest = tidy_end k (o + strings_length l) (drop row_size l) in cond (tidy_row o l) rest (string_limit + 1)

-- the first t rows
unfoldable pub rows_end : List ℕ → ℕ → ℕ
rows_end m t = tidy_end t 0 (drop rows_start m)

-- n declarations, t rows and e string bytes are used, and the rest is zero
unfoldable pub spare_zero : List ℕ → ℕ → ℕ → ℕ → Bool
spare_zero m n t e =
    all_zero (part m (2 + 2 * n) (header_size - (2 + 2 * n)))
    && all_zero (part m (rows_start + row_size * t) (strings_start - (rows_start + row_size * t)))
    && all_zero (part m (strings_start + e) (layout_length - (strings_start + e)))

unfoldable pub is_tidy : List ℕ → Bool
is_tidy m =
    let n = count_in m in
    let t = rows_before m n in
    let e = rows_end m t in
    eqb (length m) layout_length && (leb n declaration_limit && (leb t row_limit && (leb e string_limit && spare_zero m n t e)))
