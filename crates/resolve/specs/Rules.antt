-- The rules that the rows of a declaration keep: strings and numbers, one preorder tree, and 01's 11, 14 and 19.
-- Assumes nothing.
use Rattle.std.specs.Prelude.{ℕ, ◌+◌, ◌-◌, ◌^◌, Bool, true, false, not, cond, ◌&&◌, ◌||◌, List, [], ◌∷◌, eqb, leb, ltb, length, is_ok}
use Rattle.ground.specs.Bytes.{byte_at, same}
use Rattle.decimals.specs.Limits.{limit_of}
use Rattle.name.specs.Name.{is_empty, is_simple, is_dotted, is_reserved}
use Rattle.name.specs.Full.{is_short}
use Rattle.json_scan.specs.Json.{longest, is_space, scanned, Verdict}
use Rattle.row.specs.Rows.{Row}
use Rattle.row.specs.declared.kind.Kind.{Kind}
use Rattle.row.specs.declared.kind.Kind.TheVariants.{Bytes, Reference, Union, Record, Enum, Fixed, Field, Symbol, Alias, FieldAlias}
use Rattle.resolve.specs.Kinds.{is_kind, is_definition, is_named, is_schema, parts_fit}

-- ---- one row: its strings and its numbers

-- a kept full name: 7 and 9
unfoldable pub is_full_name : List ℕ → Bool
is_full_name s = is_short s && is_dotted s

-- the kept name of a field, its alias or a symbol: 7 and 9
unfoldable pub is_own_name : List ℕ → Bool
is_own_name s = is_short s && is_simple s

-- 8 is asked of definitions and their aliases alone
unfoldable pub good_text : Kind → List ℕ → Bool
good_text kind text =
    cond (is_definition kind || is_kind Alias kind) (is_full_name text && not (is_reserved text))
    (cond (is_kind Reference kind) (is_full_name text)
    (cond (is_kind Field kind || is_kind FieldAlias kind || is_kind Symbol kind) (is_own_name text)
    (is_empty text)))

-- the scan has no fault
unfoldable pub passes : Verdict → Bool
passes s = is_ok s

-- a kept default: a whole text by the scan, with no white space before or behind its value, of at most 255 bytes
unfoldable pub is_default : List ℕ → Bool
is_default s = is_short s && passes (scanned s) && not (is_space (byte_at s 0)) && not (is_space (byte_at s (length s - 1)))

-- a field may have one
unfoldable pub good_default : Kind → List ℕ → Bool
good_default kind default = is_empty default || (is_kind Field kind && is_default default)

unfoldable pub good_strings : Row → Bool
good_strings r = good_text r.kind r.text && good_default r.kind r.default

-- a fixed's size; where there is a default its position
unfoldable pub good_size : Row → Bool
good_size r = cond (is_kind Fixed r.kind) (ltb r.size (2 ^ 64)) (cond (is_empty r.default) (eqb r.size 0) (ltb r.size longest))

-- a decimal's note: of bytes up to 6, of a fixed up to 7; no other row has one
unfoldable pub good_note : Kind → ℕ → Bool
good_note kind note = cond (is_kind Fixed kind) (leb note 7) (cond (is_kind Bytes kind) (leb note 6) (eqb note 0))

-- a decimal that holds has a precision of at least 1 and at least the scale
unfoldable pub good_decimal : ℕ → ℕ → ℕ → Bool
good_decimal note precision scale =
    cond (eqb note 1)
    (leb 1 precision && leb scale precision && ltb precision (2 ^ 64))
    (eqb precision 0 && eqb scale 0)

-- over a fixed its precision is at most the limit of the size; where no decimal holds it is 0 and at most any
unfoldable pub good_precision : Kind → ℕ → ℕ → Bool
good_precision kind size precision = cond (is_kind Fixed kind) (leb precision (limit_of size)) true

unfoldable pub good_numbers : Row → Bool
good_numbers r =
    ltb r.position longest
    && good_size r
    && good_note r.kind r.note
    && good_precision r.kind r.size r.precision
    && good_decimal r.note r.precision r.scale

-- ---- the rows under a row

-- of the rows behind a row of depth d, those that stand under it
unfoldable pub under : ℕ → List Row → List Row
under d [] = []
under d (r ∷ rows) = let more = under d rows in cond (ltb d r.depth) (r ∷ more) []

unfoldable pub kinds_at : ℕ → List Row → List Kind
kinds_at d [] = []
kinds_at d (r ∷ rows) = let more = kinds_at d rows in cond (eqb r.depth d) (r.kind ∷ more) more

-- ---- 11, 14 and 19: what two rows a, then b, under a row of depth d may not be

unfoldable pub is_at : Kind → ℕ → Row → Bool
is_at kind d r = is_kind kind r.kind && eqb r.depth d

-- 11: b is a field with the name of a, a field or a field's alias; an alias may have an earlier name
unfoldable pub is_field_name : ℕ → Row → Bool
is_field_name d r = is_at Field (d + 1) r || is_at FieldAlias (d + 2) r

unfoldable pub takes_name : ℕ → Row → Row → Bool
takes_name d a b = is_field_name d a && is_at Field (d + 1) b && same a.text b.text

-- 14: two symbols alike
unfoldable pub same_symbol : ℕ → Row → Row → Bool
same_symbol d a b = is_at Symbol (d + 1) a && is_at Symbol (d + 1) b && same a.text b.text

-- 19: two members of one full name, or of one unnamed kind
unfoldable pub same_schema : Row → Row → Bool
same_schema a b = cond (is_named a.kind) (is_named b.kind && same a.text b.text) (is_kind a.kind b.kind)

unfoldable pub same_member : ℕ → Row → Row → Bool
same_member d a b = eqb a.depth (d + 1) && eqb b.depth (d + 1) && same_schema a b

unfoldable pub clash : Kind → ℕ → Row → Row → Bool
clash kind d a b =
    cond (is_kind Record kind) (takes_name d a b)
    (cond (is_kind Enum kind) (same_symbol d a b)
    (cond (is_kind Union kind) (same_member d a b)
    false))

-- is a test kept by one of them?
unfoldable pub some : {A : Type 0} → (A → Bool) → List A → Bool
some test [] = false
some test (x ∷ xs) = test x || some test xs

-- no row meets a later one that it may not meet
unfoldable pub no_two : (Row → Row → Bool) → List Row → Bool
no_two meet [] = true
no_two meet (r ∷ rows) = not (some (meet r) rows) && no_two meet rows

-- ---- a declaration: one preorder tree of good rows

-- a row, and the rows behind it in its declaration
unfoldable pub good_parts : Row → List Row → Bool
good_parts r rest = parts_fit r.kind (kinds_at (r.depth + 1) (under r.depth rest))

unfoldable pub no_clash : Row → List Row → Bool
no_clash r rest = no_two (clash r.kind r.depth) (under r.depth rest)

unfoldable pub good_row : Row → List Row → Bool
good_row r rest = good_strings r && good_numbers r && good_parts r rest && no_clash r rest

unfoldable pub good_rows : List Row → Bool
good_rows [] = true
good_rows (r ∷ rest) = good_row r rest && good_rows rest

-- behind a row of depth d: each row is at least 1 deep, and at most 1 deeper than the row before it
unfoldable pub climbs : ℕ → List Row → Bool
climbs d [] = true
climbs d (r ∷ rows) = leb 1 r.depth && leb r.depth (d + 1) && climbs r.depth rows

unfoldable pub is_declaration : List Row → Bool
is_declaration [] = false
is_declaration (r ∷ rest) = eqb r.depth 0 && is_schema r.kind && climbs 0 rest && good_rows (r ∷ rest)
