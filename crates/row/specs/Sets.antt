-- A set, a list of declarations of rows, as bytes (docs/LAYOUT.md), and the set that bytes hold.
-- Assumes nothing.
use Rattle.std.specs.Prelude.{ℕ, zero, suc, ◌+◌, ◌-◌, ◌*◌, ◌≤◌, Bool, true, ◌&&◌, List, [], ◌∷◌, ◌++◌, ◌≡◌, leb, length, take, drop, replicate}
use Rattle.ground.specs.Bytes.{same}
use Rattle.ground.specs.Numbers.{low_first}
use Rattle.row.specs.Numbers.{number}
use Rattle.row.specs.Layout.{declaration_limit, row_limit, string_limit, header_size, row_size, rows_start, rows_size, strings_start}
use Rattle.row.specs.Rows.{Row, all_fit, encode_rows, texts, rows_of}

-- the rows of all declarations, in order
unfoldable pub flat : List (List Row) → List Row
flat [] = []
flat (d ∷ ds) = d ++ flat ds

-- how many rows each declaration has
unfoldable pub sizes : List (List Row) → List ℕ
sizes [] = []
sizes (d ∷ ds) = length d ∷ sizes ds

unfoldable pub sum : List ℕ → ℕ
sum [] = 0
sum (n ∷ ns) = n + sum ns

-- ---- to bytes

-- numbers of two bytes each
unfoldable pub words : List ℕ → List ℕ
words [] = []
words (n ∷ ns) = low_first 2 n ++ words ns

abbrev pub zeros : ℕ → List ℕ
zeros n = replicate n 0

-- n bytes: bs, then zeros
unfoldable pub filled : ℕ → List ℕ → List ℕ
filled n bs = bs ++ zeros (n - length bs)

-- the header, the rows, the strings; the rest zero
unfoldable pub pack : List ℕ → List Row → List ℕ
pack counts rows = filled header_size (words (length counts ∷ counts)) ++ (filled rows_size (encode_rows 0 rows) ++ filled string_limit (texts rows))

unfoldable pub encode : List (List Row) → List ℕ
encode ds = pack (sizes ds) (flat ds)

-- ---- from bytes

-- k numbers of two bytes each
unfoldable pub words_of : ℕ → List ℕ → List ℕ
words_of zero l = []
words_of (suc k) l = number l 0 2 ∷ words_of k (drop 2 l)

-- the number of declarations
unfoldable pub count_in : List ℕ → ℕ
count_in m = number m 0 2

-- how many rows each of the first k places has
unfoldable pub sizes_in : List ℕ → ℕ → List ℕ
sizes_in m k = words_of k (drop 2 m)

-- the n rows from row i on
unfoldable pub rows_from : List ℕ → ℕ → ℕ → List Row
rows_from m n i = rows_of (drop strings_start m) n (drop (rows_start + row_size * i) m)

-- rows dealt out: to each declaration as many as it has
unfoldable pub split : List ℕ → List Row → List (List Row)
split [] rows = []
split (n ∷ ns) rows = take n rows ∷ split ns (drop n rows)

unfoldable pub decode : List ℕ → List (List Row)
decode m = split (sizes_in m (count_in m)) (rows_from m (sum (sizes_in m (count_in m))) 0)

-- ---- limits

-- a set that memory can hold
pub record Within (ds : List (List Row)) : Type 0 where
  pub declarations : length ds ≤ declaration_limit
  pub rows : length (flat ds) ≤ row_limit
  pub strings : length (texts (flat ds)) ≤ string_limit
  pub numbers : all_fit (flat ds) ≡ true

-- the same as a test
unfoldable pub is_within : List (List Row) → Bool
is_within ds = leb (length ds) declaration_limit && leb (length (flat ds)) row_limit && leb (length (texts (flat ds))) string_limit && all_fit (flat ds)

-- bytes that are the encoding of a set that memory can hold
unfoldable pub is_encoding : List ℕ → Bool
is_encoding m = is_within (decode m) && same m (encode (decode m))
