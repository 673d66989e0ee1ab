-- What the calls read from a set's memory, and what they leave in it.
-- Assumes nothing.
use Rattle.std.specs.Prelude.{ℕ, ◌+◌, ◌-◌, ◌*◌, ◌^◌, min, Bool, cond, ◌&&◌, List, [], ◌∷◌, eqb, leb, ltb, length, drop}
use Rattle.answer.specs.declared.counts.Counts.{Counts}
use Rattle.answer.specs.Limits.{counts_of}
use Rattle.ground.specs.Bytes.{store}
use Rattle.ground.specs.Numbers.{low_first}
use Rattle.row.specs.Numbers.{number}
use Rattle.row.specs.Layout.{row_limit, string_limit, row_size, rows_start, strings_start}
use Rattle.row.specs.Rows.{Row, with_default, strings_of, encode_row, texts, entry_of, text_start, text_length, text_of, default_of, strings_length}
use Rattle.row.specs.Sets.{flat, sum, count_in, sizes_in}
use Rattle.row.specs.declared.Entry.{Entry}

-- ---- reading

-- the bytes from row i on
abbrev pub from_row : List ℕ → ℕ → List ℕ
from_row m i = drop (rows_start + row_size * i) m

unfoldable pub entry_at : List ℕ → ℕ → Entry
entry_at m i = entry_of (from_row m i)

unfoldable pub text_at : List ℕ → ℕ → List ℕ
text_at m i = text_of (drop strings_start m) (from_row m i)

unfoldable pub default_at : List ℕ → ℕ → List ℕ
default_at m i = default_of (drop strings_start m) (from_row m i)

-- where in memory each begins
unfoldable pub text_place : List ℕ → ℕ → ℕ
text_place m i = strings_start + min (text_start (from_row m i)) string_limit

unfoldable pub default_place : List ℕ → ℕ → ℕ
default_place m i = strings_start + min (text_start (from_row m i) + text_length (from_row m i)) string_limit

-- a slice's pointer is a block of memory and a place in it: this is the pointer so many bytes behind a slice's first
abbrev pub behind : ℕ × ℕ → ℕ → ℕ × ℕ
behind first at = (first.0, at + first.1)

abbrev pub row_at : List ℕ → ℕ → Row
row_at m i = with_default (entry_at m i) (text_at m i) (default_at m i)

-- how many rows a place has
unfoldable pub size_at : List ℕ → ℕ → ℕ
size_at m place = number m (2 + 2 * place) 2

-- how many rows the places before a place have
unfoldable pub rows_before : List ℕ → ℕ → ℕ
rows_before m place = sum (sizes_in m place)

-- where the strings of row i end in the string area
unfoldable pub text_end : List ℕ → ℕ → ℕ
text_end m i = text_start (from_row m i) + strings_length (from_row m i)

-- how many string bytes the first n rows have
unfoldable pub strings_before : List ℕ → ℕ → ℕ
strings_before m n = cond (eqb n 0) 0 (text_end m (n - 1))

-- the three counts that memory holds
unfoldable pub counts_in : List ℕ → Counts
counts_in m = counts_of (count_in m) (rows_before m (count_in m)) (strings_before m (rows_before m (count_in m)))

-- the three counts of a set
unfoldable pub set_counts : List (List Row) → Counts
set_counts ds = counts_of (length ds) (length (flat ds)) (length (texts (flat ds)))

-- ---- writing

abbrev pub most : ℕ
most = 2 ^ 64 - 1

-- one row more, and the n bytes of its strings
unfoldable pub counted : Counts → ℕ → Counts
counted c n = counts_of c.declarations (min (c.rows + 1) most) (min (c.string_bytes + n) most)

-- is there room for one row more, and the n bytes of its strings?
unfoldable pub has_room : Counts → ℕ → Bool
has_room c n = ltb c.rows row_limit && leb (c.string_bytes + n) string_limit

-- the row behind those that are counted, and its strings behind theirs
unfoldable pub written : List ℕ → Counts → Row → List ℕ
written m c r = store (store m (rows_start + row_size * c.rows) (encode_row c.string_bytes r)) (strings_start + c.string_bytes) (strings_of r)

unfoldable pub pushed : List ℕ → Counts → Row → List ℕ
pushed m c r = cond (has_room c (length (strings_of r))) (written m c r) m

-- rows one after the other: the counts, and the memory
unfoldable pub counted_all : Counts → List Row → Counts
counted_all c [] = c
counted_all c (r ∷ rs) = counted_all (counted c (length (strings_of r))) rs

unfoldable pub pushed_all : List ℕ → Counts → List Row → List ℕ
pushed_all m c [] = m
pushed_all m c (r ∷ rs) = pushed_all (pushed m c r) (counted c (length (strings_of r))) rs

-- a declaration of n rows at a place, the last
unfoldable pub declared : List ℕ → ℕ → ℕ → List ℕ
declared m place n = store (store m (2 + 2 * place) (low_first 2 n)) 0 (low_first 2 (place + 1))
