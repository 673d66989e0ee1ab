-- Kinds by their numbers.
-- Assumes nothing.
use mathlib.Core.Path.{◌≡◌, refl, sym}
use mathlib.Core.Bool.{Bool, true, false, ◌||◌}
use Prim.Native.Nat.{ℕ}
use lib.Dec.{eqb, ltb}
use borrow.Author.Tests.{eqb-true, ne_eqb}
use Rattle.row.specs.Kinds.{kind_number}
use Rattle.row.specs.declared.kind.Kind.{Kind}
use Rattle.row.specs.declared.kind.Kind.TheVariants.{Null, Boolean, Int, Long, Float, Double, Bytes, String, Reference, Array, Map, Union, Record, Enum, Fixed, Field, Symbol, Alias, FieldAlias}
use Rattle.row.proofs.RowLaws.{one_kind}
use Rattle.resolve.specs.Kinds.{is_kind, is_primitive, is_definition, is_named, is_schema}

-- the numbers of schemas come before that of a field
pub schema_number : (k : Kind) → ltb (kind_number k) (kind_number Field) ≡ is_schema k
unfolding is_schema is_primitive is_named is_definition is_kind
schema_number Null = refl
schema_number Boolean = refl
schema_number Int = refl
schema_number Long = refl
schema_number Float = refl
schema_number Double = refl
schema_number Bytes = refl
schema_number String = refl
schema_number Reference = refl
schema_number Array = refl
schema_number Map = refl
schema_number Union = refl
schema_number Record = refl
schema_number Enum = refl
schema_number Fixed = refl
schema_number Field = refl
schema_number Symbol = refl
schema_number Alias = refl
schema_number FieldAlias = refl

-- what is of a kind is of that kind
pub kind_is : (j k : Kind) → is_kind j k ≡ true → k ≡ j
unfolding is_kind
kind_is j k e = one_kind k j (eqb-true (kind_number k) (kind_number j) e)

pub kind_not : (kind k : Kind) → (kind_number k ≡ kind_number kind → ⊥) → is_kind kind k ≡ false
unfolding is_kind
kind_not kind k h = ne_eqb (kind_number k) (kind_number kind) h
