-- What private functions promise of a walk over the rows under a row, and of the tables that they keep on the way. Assumes nothing.
use Rattle.std.specs.Prelude.{ℕ, zero, suc, ◌+◌, ◌-◌, ◌≡◌, Bool, true, not, cond, ◌&&◌, ◌||◌, List, [], ◌∷◌, ◌++◌, eqb, ltb, length, get_or, set}
use Rattle.chains.specs.Marks.{mark_of}
use Rattle.chains.specs.Chains.{slots, slot_of, Keeps}
use Rattle.name.specs.Name.{every}
use Rattle.row.specs.Kinds.{kind_number}
use Rattle.row.specs.Memory.{row_at}
use Rattle.row.specs.Rows.{Row}
use Rattle.row.specs.declared.kind.Kind.{Kind}
use Rattle.row.specs.declared.kind.Kind.TheVariants.{Union, Record, Enum, Symbol}
use Rattle.resolve.specs.Kinds.{is_kind, is_definition, is_named, is_alias_of, is_part_of, has_one, parts_fit}
use Rattle.resolve.specs.Rules.{is_at, is_field_name, clash, some}
use Rattle.resolve.specs.Resolve.{defines}

-- n parts have passed: k is one of the aliases before them
unfoldable pub is_leading : Kind → ℕ → Kind → Bool
is_leading kind n k = eqb n 0 && is_alias_of kind k

-- n parts have passed, and none is left
unfoldable pub may_end : Kind → ℕ → Bool
may_end kind n = not (has_one kind) || eqb n 1

-- n parts have passed, and the kinds ks are left
unfoldable pub left_fit : Kind → ℕ → List Kind → Bool
left_fit kind zero ks = parts_fit kind ks
left_fit kind (suc n) ks = every (is_part_of kind) ks && (not (has_one kind) || eqb (suc n + length ks) 1)

-- the kinds that 11, 14 or 19 is asked of
unfoldable pub is_ruled : Kind → Bool
is_ruled kind = is_kind Record kind || is_kind Enum kind || is_kind Union kind

-- under a row of such a kind and of depth d: a later row may clash with r
unfoldable pub may_meet : Kind → ℕ → Row → Bool
may_meet kind d r =
    cond (is_kind Record kind) (is_field_name d r)
    (cond (is_kind Enum kind) (is_at Symbol (d + 1) r)
    (eqb r.depth (d + 1)))

-- no row meets one of the earlier ones, each of which is one of them for those behind it
unfoldable pub none_met : (Row → Row → Bool) → List Row → List Row → Bool
none_met meet earlier [] = true
none_met meet earlier (b ∷ rows) = not (some (λ (a : Row). meet a b) earlier) && none_met meet (earlier ++ (b ∷ [])) rows

-- ---- tables of rows by what two that clash have alike

-- the tables have the length that they are made with
pub record Sized (first next : List ℕ) : Type 0 where
  pub firsts : length first ≡ slots
  pub nexts : length next ≡ slots

-- under a row of a kind: is a row of kind k told by its name?
unfoldable pub told_by_name : Kind → Kind → Bool
told_by_name kind k = is_kind Record kind || is_kind Enum kind || is_named k

-- a number by its name, or by its kind
unfoldable pub key_of : Kind → Row → ℕ
key_of kind r = cond (told_by_name kind r.kind) (mark_of r.text) (kind_number r.kind)

-- rows of memory under row i of a kind and a depth d: those behind it that may clash with a later one, by their slots
unfoldable pub is_under : List ℕ → Kind → ℕ → ℕ → ℕ → Bool
is_under m kind d i a = ltb i a && may_meet kind d (row_at m a)

unfoldable pub slot_under : List ℕ → Kind → ℕ → ℕ → ℕ
slot_under m kind i a = slot_of (key_of kind (row_at m a)) i

-- those of them that row j may not meet
unfoldable pub meets_at : List ℕ → Kind → ℕ → ℕ → ℕ → ℕ → Bool
meets_at m kind d i j a = ltb i a && clash kind d (row_at m a) (row_at m j)

-- each of those before row j is on its chain
abbrev pub KeepsUnder : List ℕ → Kind → ℕ → ℕ → List ℕ → List ℕ → ℕ → Type 0
KeepsUnder m kind d i = Keeps (is_under m kind d i) (slot_under m kind i)

-- ---- the first rows of a set, then rows of another memory

-- row number a of them
unfoldable pub in_line : List ℕ → ℕ → List ℕ → ℕ → ℕ → Row
in_line one earlier other start a = cond (ltb a earlier) (row_at one a) (row_at other (start + (a - earlier)))

unfoldable pub defines_at : List ℕ → ℕ → List ℕ → ℕ → ℕ → Bool
defines_at one earlier other start a = is_definition (in_line one earlier other start a).kind

unfoldable pub slot_at : List ℕ → ℕ → List ℕ → ℕ → ℕ → ℕ
slot_at one earlier other start a = slot_of (mark_of (in_line one earlier other start a).text) 0

unfoldable pub is_named_at : List ℕ → ℕ → List ℕ → ℕ → List ℕ → ℕ → Bool
is_named_at one earlier other start name a = defines name (in_line one earlier other start a)

-- each definition among the first n is on its chain
abbrev pub KeepsNames : List ℕ → ℕ → List ℕ → ℕ → List ℕ → List ℕ → ℕ → Type 0
KeepsNames one earlier other start = Keeps (defines_at one earlier other start) (slot_at one earlier other start)

-- the tables with row r as number a, if it is a definition
unfoldable pub first_with : Row → ℕ → List ℕ → List ℕ
first_with r a first = cond (is_definition r.kind) (set first (slot_of (mark_of r.text) 0) (a + 1)) first

unfoldable pub next_with : Row → ℕ → List ℕ → List ℕ → List ℕ
next_with r a first next = cond (is_definition r.kind) (set next a (get_or first (slot_of (mark_of r.text) 0) 0)) next
