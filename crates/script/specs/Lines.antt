-- The lines of an answer.
-- Assumes nothing.
use Rattle.std.specs.Prelude.{ℕ, zero, suc, ◌+◌, Bool, cond, ◌&&◌, List, [], ◌++◌, eqb, leb, length}
use Rattle.answer.specs.Numbers.{number_of}
use Rattle.answer.specs.declared.refusal.Fault.{Fault}
use Rattle.answer.specs.declared.refusal.Refusal.{Refusal}
use Rattle.ground.specs.Ascii.{ascii}
use Rattle.row.specs.Layout.{row_limit, layout_length}
use Rattle.row.specs.Memory.{entry_at, text_at, default_at}
use Rattle.row.specs.declared.Entry.{Entry}
use Rattle.row.specs.declared.kind.Kind.{Kind}
use Rattle.row.specs.declared.kind.Kind.TheVariants.{Null, Boolean, Int, Long, Float, Double, Bytes, String, Reference, Array, Map, Union, Record, Enum, Fixed, Field, Symbol, Alias, FieldAlias}
use Rattle.script.specs.Numbers.{decimal_of}
use Rattle.script.specs.Hex.{hex_of}

abbrev pub kind_word : Kind → List ℕ
kind_word Null = ascii "null"
kind_word Boolean = ascii "boolean"
kind_word Int = ascii "int"
kind_word Long = ascii "long"
kind_word Float = ascii "float"
kind_word Double = ascii "double"
kind_word Bytes = ascii "bytes"
kind_word String = ascii "string"
kind_word Reference = ascii "reference"
kind_word Array = ascii "array"
kind_word Map = ascii "map"
kind_word Union = ascii "union"
kind_word Record = ascii "record"
kind_word Enum = ascii "enum"
kind_word Fixed = ascii "fixed"
kind_word Field = ascii "field"
kind_word Symbol = ascii "symbol"
kind_word Alias = ascii "alias"
kind_word FieldAlias = ascii "field-alias"

-- a space, and a number
unfoldable pub spaced : ℕ → List ℕ
spaced n = ascii " " ++ decimal_of n

unfoldable pub fault_line : Fault → List ℕ
fault_line f = ascii "refused" ++ (spaced (number_of f.why) ++ (spaced f.at ++ ascii "\n"))

unfoldable pub refusal_line : Refusal → List ℕ
refusal_line r = ascii "refused" ++ (spaced (number_of r.why) ++ (spaced r.place ++ (spaced r.at ++ ascii "\n")))

-- a row holds one number as a fixed's size or, where it has a default, as the default's position; the other of the two is 0
unfoldable pub own_size : Entry → List ℕ → ℕ
own_size e default = cond (eqb (length default) 0) e.size 0

unfoldable pub default_position : Entry → List ℕ → ℕ
default_position e default = cond (eqb (length default) 0) 0 e.size

-- the six numbers of a row
unfoldable pub row_numbers : Entry → ℕ → List ℕ
row_numbers e size = spaced e.depth ++ (spaced e.position ++ (spaced size ++ (spaced e.note ++ (spaced e.precision ++ spaced e.scale))))

-- a string behind a space
unfoldable pub spaced_hex : List ℕ → List ℕ
spaced_hex s = ascii " " ++ hex_of s

unfoldable pub row_line : Entry → List ℕ → List ℕ → List ℕ
row_line e text default =
    ascii "row " ++ (kind_word e.kind ++ (row_numbers e (own_size e default)
    ++ (spaced_hex text ++ (spaced (default_position e default) ++ (spaced_hex default ++ ascii "\n")))))

-- n rows of a set's memory from row i on
unfoldable pub row_lines : List ℕ → ℕ → ℕ → List ℕ
row_lines m zero i = []
row_lines m (suc n) i = row_line (entry_at m i) (text_at m i) (default_at m i) ++ row_lines m n (i + 1)

-- does the memory have those rows?
unfoldable pub has_rows : List ℕ → ℕ → ℕ → Bool
has_rows m n i = eqb (length m) layout_length && leb (i + n) row_limit

-- nothing where it does not
unfoldable pub rows_text : List ℕ → ℕ → ℕ → List ℕ
rows_text m n i = cond (has_rows m n i) (row_lines m n i) []
