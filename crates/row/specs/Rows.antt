-- Rows, and rows as bytes (docs/LAYOUT.md).
-- Assumes nothing.
use Rattle.std.specs.Prelude.{ℕ, zero, suc, ◌+◌, ◌^◌, Bool, true, ◌&&◌, List, [], ◌∷◌, ◌++◌, ltb, length, drop}
use Rattle.ground.specs.Bytes.{part}
use Rattle.row.specs.Kinds.{kind_number, kind_of}
use Rattle.ground.specs.Numbers.{low_first}
use Rattle.row.specs.Numbers.{number}
use Rattle.row.specs.Layout.{row_size}
use Rattle.row.specs.declared.kind.Kind.{Kind}
use Rattle.row.specs.declared.Entry.{Entry}

-- a row with its strings: its own, and of a field with a default the default's text as it was written. The size is that of a fixed; of a field with a
-- default it is the position of the default
pub record Row : Type 0 where
  pub kind : Kind
  pub depth : ℕ
  pub position : ℕ
  pub text : List ℕ
  pub default : List ℕ
  pub size : ℕ
  pub note : ℕ
  pub precision : ℕ
  pub scale : ℕ

-- a row by its numbers, its own string and its default
abbrev pub with_default : Entry → List ℕ → List ℕ → Row
with_default e text default = record {
  kind = e.kind;
  depth = e.depth;
  position = e.position;
  text = text;
  default = default;
  size = e.size;
  note = e.note;
  precision = e.precision;
  scale = e.scale;
}

-- a row without a default
abbrev pub row_of : Entry → List ℕ → Row
row_of e text = with_default e text []

-- the strings of a row, one behind the other
unfoldable pub strings_of : Row → List ℕ
strings_of r = r.text ++ r.default

-- each number of the row, and the length of each of its strings, fits its bytes in memory
unfoldable pub fits : Row → Bool
fits r =
    ltb r.depth (2 ^ 16)
    && ltb r.position (2 ^ 16)
    && ltb r.size (2 ^ 64)
    && ltb r.note (2 ^ 8)
    && ltb r.precision (2 ^ 64)
    && ltb r.scale (2 ^ 64)
    && ltb (length r.text) (2 ^ 8)
    && ltb (length r.default) (2 ^ 8)

unfoldable pub all_fit : List Row → Bool
all_fit [] = true
all_fit (r ∷ rs) = fits r && all_fit rs

-- ---- to bytes

-- the front of a row whose strings lie in the string area from o on
unfoldable pub encode_front : ℕ → Row → List ℕ
encode_front o r = kind_number r.kind ∷ r.note ∷ (low_first 2 r.depth ++ (low_first 2 r.position ++ (low_first 1 (length r.text) ++ (low_first 1 (length r.default) ++ low_first 2 o))))

unfoldable pub encode_row : ℕ → Row → List ℕ
encode_row o r = encode_front o r ++ (low_first 8 r.size ++ (low_first 8 r.precision ++ low_first 8 r.scale))

-- rows, whose strings lie one behind the other from o on
unfoldable pub encode_rows : ℕ → List Row → List ℕ
encode_rows o [] = []
encode_rows o (r ∷ rs) = encode_row o r ++ encode_rows (o + length (strings_of r)) rs

-- their strings
unfoldable pub texts : List Row → List ℕ
texts [] = []
texts (r ∷ rs) = strings_of r ++ texts rs

-- ---- from bytes: each row says where its strings lie, so a row is read alone

-- the row that bytes start with
unfoldable pub entry_of : List ℕ → Entry
entry_of l = record {
  kind = kind_of (number l 0 1);
  depth = number l 2 2;
  position = number l 4 2;
  size = number l 10 8;
  note = number l 1 1;
  precision = number l 18 8;
  scale = number l 26 8;
}

-- where its strings lie in the string area, and how long each is
abbrev pub text_start : List ℕ → ℕ
text_start l = number l 8 2

abbrev pub text_length : List ℕ → ℕ
text_length l = number l 6 1

abbrev pub default_length : List ℕ → ℕ
default_length l = number l 7 1

-- its own string, and behind it the default's; of one that does not lie in the string area, the part that does
unfoldable pub text_of : List ℕ → List ℕ → List ℕ
text_of area l = part area (text_start l) (text_length l)

unfoldable pub default_of : List ℕ → List ℕ → List ℕ
default_of area l = part area (text_start l + text_length l) (default_length l)

-- how long both are together
abbrev pub strings_length : List ℕ → ℕ
strings_length l = text_length l + default_length l

unfoldable pub rows_of : List ℕ → ℕ → List ℕ → List Row
rows_of area zero l = []
rows_of area (suc k) l = with_default (entry_of l) (text_of area l) (default_of area l) ∷ rows_of area k (drop row_size l)
