-- Kinds of rows: which are schemas, which define a full name, and what may stand under a row of each kind.
-- Assumes nothing.
use Rattle.std.specs.Prelude.{Bool, not, cond, ◌&&◌, ◌||◌, List, [], ◌∷◌, eqb, length}
use Rattle.name.specs.Name.{every}
use Rattle.row.specs.Kinds.{kind_number}
use Rattle.row.specs.declared.kind.Kind.{Kind}
use Rattle.row.specs.declared.kind.Kind.TheVariants.{Null, Boolean, Int, Long, Float, Double, Bytes, String, Reference, Array, Map, Union, Record, Enum, Fixed, Field, Symbol, Alias, FieldAlias}

unfoldable pub is_kind : Kind → Kind → Bool
is_kind kind k = eqb (kind_number k) (kind_number kind)

unfoldable pub is_primitive : Kind → Bool
is_primitive k =
    is_kind Null k || is_kind Boolean k || is_kind Int k || is_kind Long k || is_kind Float k || is_kind Double k || is_kind Bytes k || is_kind String k

unfoldable pub is_definition : Kind → Bool
is_definition k = is_kind Record k || is_kind Enum k || is_kind Fixed k

-- definitions and references are told apart by their full name alone
unfoldable pub is_named : Kind → Bool
is_named k = is_definition k || is_kind Reference k

unfoldable pub is_schema : Kind → Bool
is_schema k = is_primitive k || is_kind Array k || is_kind Map k || is_kind Union k || is_named k

-- ---- what stands under a row: aliases, then parts

unfoldable pub is_alias_of : Kind → Kind → Bool
is_alias_of kind k = cond (is_definition kind) (is_kind Alias k) (is_kind Field kind && is_kind FieldAlias k)

-- the kinds with exactly one part
unfoldable pub has_one : Kind → Bool
has_one kind = is_kind Array kind || is_kind Map kind || is_kind Field kind

unfoldable pub is_part_of : Kind → Kind → Bool
is_part_of kind k =
    cond (is_kind Record kind) (is_kind Field k)
    (cond (is_kind Enum kind) (is_kind Symbol k)
    (cond (is_kind Union kind) (not (is_kind Union k) && is_schema k)
    (has_one kind && is_schema k)))

-- what is left of a list behind the kinds at its front that keep a test
unfoldable pub past : (Kind → Bool) → List Kind → List Kind
past test [] = []
past test (k ∷ ks) = cond (test k) (past test ks) (k ∷ ks)

unfoldable pub body_fits : Kind → List Kind → Bool
body_fits kind ks = every (is_part_of kind) ks && (not (has_one kind) || eqb (length ks) 1)

-- may rows of the kinds ks, in this order, stand under a row of a kind?
unfoldable pub parts_fit : Kind → List Kind → Bool
parts_fit kind ks = body_fits kind (past (is_alias_of kind) ks)
