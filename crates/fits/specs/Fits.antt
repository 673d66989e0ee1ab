-- When a value fits a type: a line for each kind, as Avro 1.12.0's table of field default values has them and document 02 says more closely.
-- Assumes nothing.
use Rattle.std.specs.Prelude.{ℕ, zero, suc, ◌^◌, Bool, true, false, not, cond, ◌&&◌, ◌||◌, List, [], ◌∷◌, Option, Some, None}
use Rattle.ground.specs.Bytes.{same}
use Rattle.name.specs.Name.{every}
use Rattle.view.specs.Elements.{elements}
use Rattle.view.specs.Strings.{string_at}
use Rattle.view.specs.Members.{members_at, member}
use Rattle.view.specs.declared.members.Member.{Member}
use Rattle.row.specs.Rows.{Row}
use Rattle.row.specs.declared.kind.Kind.{Kind}
use Rattle.row.specs.declared.kind.Kind.TheVariants.{Null, Boolean, Int, Long, Float, Double, Bytes, String, Reference, Array, Map, Union, Record, Enum, Fixed, Field, Symbol, Alias, FieldAlias}
use Rattle.resolve.specs.Kinds.{is_kind}
use Rattle.resolve.specs.Resolve.{definition_in}
use Rattle.values.specs.Values.{is_null, is_boolean, is_number, is_string, is_array, is_object, is_whole, is_bytes, is_fixed}
use Rattle.resolve.specs.Rules.{some}
use Rattle.fits.specs.Types.{parts_under, type_of, has_default}

-- what a test says of the value that was found, or `none` where there is no value
unfoldable pub on_value : (ℕ → Bool) → Bool → Option ℕ → Bool
on_value test none (Some v) = test v
on_value test none None = none

-- is the first row a symbol with this text?
unfoldable pub is_symbol : List ℕ → List Row → Bool
is_symbol s [] = false
is_symbol s (r ∷ rest) = is_kind Symbol r.kind && same s r.text

-- ---- of a text: what is inside a value is answered by `go`, which takes a type and a place

module _ (t : List ℕ) (go : List Row → ℕ → Bool) where
  -- a member of the object at p fits: what counts is the value under its key, the last of those under it
  unfoldable pub member_fits : List Row → ℕ → Member → Bool
  member_fits type p m = on_value (go type) false (member t p (string_at t m.key))

  -- the object at p fits a field, whose row is the first: the last member of its name fits its type, or there is none and the
  -- field has a default of its own
  unfoldable pub field_fits : ℕ → List Row → Bool
  field_fits p [] = true
  field_fits p (f ∷ rest) = not (is_kind Field f.kind) || on_value (go (type_of rest)) (has_default f) (member t p f.text)

  -- the value at p fits a type that is no union and no reference, by the kind of its row r; `rest` are the rows behind it
  unfoldable pub kind_fits : Kind → Row → List Row → ℕ → Bool
  kind_fits Null r rest p = is_null t p
  kind_fits Boolean r rest p = is_boolean t p
  kind_fits Int r rest p = is_whole (2 ^ 31) t p
  kind_fits Long r rest p = is_whole (2 ^ 63) t p
  kind_fits Float r rest p = is_number t p
  kind_fits Double r rest p = is_number t p
  kind_fits Bytes r rest p = is_bytes t p
  kind_fits String r rest p = is_string t p
  kind_fits Fixed r rest p = is_fixed r.size t p
  kind_fits Enum r rest p = is_string t p && some (is_symbol (string_at t p)) (parts_under r.depth rest)
  kind_fits Array r rest p = is_array t p && every (go rest) (elements t p)
  kind_fits Map r rest p = is_object t p && every (member_fits rest p) (members_at t p)
  kind_fits Record r rest p = is_object t p && every (field_fits p) (parts_under r.depth rest)
  -- a union and a reference are told by others, and what is left is no type
  kind_fits Union r rest p = false
  kind_fits Reference r rest p = false
  kind_fits Field r rest p = false
  kind_fits Symbol r rest p = false
  kind_fits Alias r rest p = false
  kind_fits FieldAlias r rest p = false

  -- the same for a type
  unfoldable pub plain_fits : List Row → ℕ → Bool
  plain_fits [] p = false
  plain_fits (r ∷ rest) p = kind_fits r.kind r rest p

-- ---- among all rows, where the definitions are

module _ (rows : List Row) where
  -- what a type that is no union stands for: itself, or the definition that it refers to
  unfoldable pub reached : List Row → List Row
  reached [] = []
  reached (r ∷ rest) = cond (is_kind Reference r.kind) (definition_in r.text rows) (r ∷ rest)

  module _ (t : List ℕ) where
    -- a type that is no union
    unfoldable pub one_fits : (List Row → ℕ → Bool) → ℕ → List Row → Bool
    one_fits go p type = plain_fits t go (reached type) p

    -- any type: a union by any member
    unfoldable pub any_fits : (List Row → ℕ → Bool) → List Row → ℕ → Bool
    any_fits go [] p = false
    any_fits go (r ∷ rest) p = cond (is_kind Union r.kind) (some (one_fits go p) (parts_under r.depth rest)) (one_fits go p (r ∷ rest))

    -- the value at p fits a type, with so much nesting left: the values inside have one less
    unfoldable pub fits : ℕ → List Row → ℕ → Bool
    fits zero type p = false
    fits (suc n) type p = any_fits (fits n) type p
