-- The number of each kind of row in memory (docs/LAYOUT.md). The gaps are for kinds to come; 0 is no kind's.
-- Assumes nothing.
use Rattle.std.specs.Prelude.{ℕ, cond, List, [], ◌∷◌, eqb}
use Rattle.row.specs.declared.kind.Kind.{Kind}
use Rattle.row.specs.declared.kind.Kind.TheVariants.{Null, Boolean, Int, Long, Float, Double, Bytes, String, Reference, Array, Map, Union, Record, Enum, Fixed, Field, Symbol, Alias, FieldAlias}

abbrev pub kind_number : Kind → ℕ
kind_number Null = 1
kind_number Boolean = 2
kind_number Int = 3
kind_number Long = 4
kind_number Float = 5
kind_number Double = 6
kind_number Bytes = 7
kind_number String = 8
kind_number Reference = 16
kind_number Array = 24
kind_number Map = 25
kind_number Union = 26
kind_number Record = 32
kind_number Enum = 33
kind_number Fixed = 34
kind_number Field = 40
kind_number Symbol = 41
kind_number Alias = 48
kind_number FieldAlias = 49

abbrev pub kinds : List Kind
kinds = Null ∷ Boolean ∷ Int ∷ Long ∷ Float ∷ Double ∷ Bytes ∷ String ∷ Reference ∷ Array ∷ Map ∷ Union ∷ Record ∷ Enum ∷ Fixed ∷ Field ∷ Symbol ∷ Alias ∷ FieldAlias ∷ []

-- the first of the kinds ks that has the number n; Null where none has
abbrev pub kind_among : List Kind → ℕ → Kind
kind_among [] n = Null
kind_among (k ∷ ks) n = cond (eqb n (kind_number k)) k (kind_among ks n)

unfoldable pub kind_of : ℕ → Kind
kind_of n = kind_among kinds n
