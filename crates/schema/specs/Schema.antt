-- From a declaration's text to its rows, section "Rows" of document 01.
-- Assumes nothing.
use Rattle.std.specs.Prelude.{ℕ, zero, suc, ◌+◌, ◌-◌, cond, List, [], ◌∷◌, eqb, Option, Ok, Err}
use Rattle.answer.specs.declared.refusal.Why.TheVariants.{NestedTooDeep, TypeMissing, NameMissing, FieldsMissing, SymbolsMissing, SizeMissing, NotASize, ItemsMissing, ValuesMissing, DefaultTooLong}
use Rattle.ground.specs.Bytes.{part}
use Rattle.json_scan.specs.Json.{scanned, Verdict}
use Rattle.name.specs.Name.{namespace_part}
use Rattle.name.specs.Full.{is_short}
use Rattle.row.specs.Kinds.{kind_number}
use Rattle.row.specs.Rows.{Row}
use Rattle.row.specs.declared.kind.Kind.{Kind}
use Rattle.row.specs.declared.kind.Kind.TheVariants.{Bytes, Reference, Array, Map, Union, Record, Enum, Fixed, Field, Symbol, Alias, FieldAlias}
use Rattle.view.specs.Values.{value_start}
use Rattle.view.specs.Ends.{end_of}
use Rattle.view.specs.Elements.{elements}
use Rattle.view.specs.Strings.{string_at}
use Rattle.view.specs.Size.{size_of}
use Rattle.view.specs.Members.{members_of}
use Rattle.view.specs.declared.members.Members.{Members}
use Rattle.form.specs.declared.forms.Form.{Form}
use Rattle.form.specs.declared.forms.Form.TheVariants as form
use Rattle.form.specs.declared.note.Note.{Note}
use Rattle.form.specs.declared.note.Plain.TheVariants as over
use Rattle.rules.specs.declared.standing.Standing.{Standing}
use Rattle.rules.specs.declared.standing.Standing.TheVariants.{Alone, MemberOf}
use Rattle.form.specs.Checks.{fault, must, ◌then◌, Check}
use Rattle.form.specs.Spots.{on_spot, as_text, as_array, aliases_in, fields_in}
use Rattle.form.specs.Names.{simple_check, full_at, reference_check, alias_check, defined_at, definition_check}
use Rattle.form.specs.Forms.{word_kind, form_of, most_nested}
use Rattle.form.specs.Notes.{noted, note_of}
use Rattle.rules.specs.Unions.{called, unnamed, union_check}
use Rattle.rules.specs.Fields.{field_names_check}
use Rattle.rules.specs.Symbols.{symbols_check, default_check}
use Rattle.schema.specs.Out.{Out, refused, read, rows_then, and_then, after, no, each}

-- ---- rows

-- a row of a kind at a depth: its position, its string, a fixed's size, a decimal's note
abbrev pub row_with : Kind → ℕ → ℕ → List ℕ → ℕ → Note → Row
row_with kind depth position text size n = record {
  kind = kind;
  depth = depth;
  position = position;
  text = text;
  default = [];
  size = size;
  note = n.note;
  precision = n.precision;
  scale = n.scale;
}

abbrev pub row : Kind → ℕ → ℕ → List ℕ → List Row
row kind depth position text = row_with kind depth position text 0 (noted 0) ∷ []

-- ---- what surrounds a schema: its namespace, and the union that it is a member of, if it is one

pub record Around : Type 0 where
  pub namespace : List ℕ
  pub standing : Standing

abbrev pub within : List ℕ → Around
within namespace = record { namespace = namespace; standing = Alone }

-- 19, for a schema with this full name, and for one of an unnamed kind
abbrev pub new_name : List ℕ → Around → List ℕ → Out → Out
new_name t a full next = after (union_check t a.namespace a.standing (called full)) next

abbrev pub new_kind : List ℕ → Around → Kind → Out → Out
new_kind t a kind next = after (union_check t a.namespace a.standing (unnamed kind)) next

-- ---- primitives and references

-- the reference at q
unfoldable pub reference_rows : List ℕ → Around → ℕ → ℕ → Out
reference_rows t a d q =
    after (reference_check t a.namespace q)
    (new_name t a (full_at t a.namespace q) (read (row Reference d q (full_at t a.namespace q))))

-- the primitive at q: of bytes the object o that it is the `type` of may say that it is a decimal
unfoldable pub primitive_rows : List ℕ → Around → ℕ → Kind → ℕ → Option ℕ → Out
primitive_rows t a d kind q o =
    new_kind t a kind
    (read (row_with kind d q [] 0 (cond (eqb (kind_number kind) (kind_number Bytes)) (on_spot o (λ p. note_of t (members_of t p) over.Bytes) (noted 0)) (noted 0)) ∷ []))

unfoldable pub word_rows : List ℕ → Around → ℕ → Kind → ℕ → Option ℕ → Out
word_rows t a d kind q o = cond (eqb (kind_number kind) (kind_number Reference)) (reference_rows t a d q) (primitive_rows t a d kind q o)

-- ---- definitions, by the object at p and its members m, the name at q

-- an alias is qualified by the definition's own namespace
unfoldable pub alias_rows : List ℕ → List ℕ → ℕ → ℕ → Out
alias_rows t namespace d q = after (alias_check t namespace q) (read (row Alias d q (full_at t namespace q)))

-- the name's checks, 19, the definition's row with what it holds, its aliases, and then the rest, which sees the definition's namespace
unfoldable pub definition_rows : List ℕ → Around → Kind → ℕ → Members → ℕ → ℕ → Note → (List ℕ → Out) → Out
definition_rows t a kind d m q size note rest =
    let full = defined_at t a.namespace m q in
    let own = namespace_part full in
    after (definition_check t a.namespace m q)
    (new_name t a full
    (rows_then (row_with kind d q full size note ∷ [])
    (and_then (each (alias_rows t own (d + 1)) (aliases_in t m.aliases)) (rest own))))

-- name missing or no string
unfoldable pub definition : List ℕ → Around → Kind → ℕ → ℕ → Members → ℕ → Note → (List ℕ → Out) → Out
definition t a kind d p m size note rest =
    on_spot (as_text t m.name) (λ q. definition_rows t a kind d m q size note rest) (no NameMissing p)

-- ---- records

-- a field's alias is a simple name
unfoldable pub field_alias_rows : List ℕ → ℕ → ℕ → Out
field_alias_rows t d q = after (simple_check t q) (read (row FieldAlias d q (string_at t q)))

-- a value as it is written, from its first byte to its last
unfoldable pub written_at : List ℕ → ℕ → List ℕ
written_at t v = part t v (end_of t v - v)

-- the row of the field whose name stands at q: with a default it keeps the default's text and position
unfoldable pub field_row : List ℕ → ℕ → ℕ → Option ℕ → Row
field_row t d q default = record {
  kind = Field;
  depth = d;
  position = q;
  text = string_at t q;
  default = on_spot default (written_at t) [];
  size = on_spot default (λ v. v) 0;
  note = 0;
  precision = 0;
  scale = 0;
}

-- 48: a default has at most 255 bytes as it is written
unfoldable pub kept_check : List ℕ → Option ℕ → Check
kept_check t default = on_spot default (λ v. must (is_short (written_at t v)) (fault DefaultTooLong v)) (Ok tt)

-- the field, its aliases, its default's length, its type, which `schema` reads
unfoldable pub field_rows : (ℕ → ℕ → Out) → List ℕ → ℕ → ℕ → Out
field_rows schema t d f =
    let m = members_of t f in
    on_spot (as_text t m.name)
    (λ q.
    after (simple_check t q)
    (rows_then (field_row t d q m.default ∷ [])
    (and_then (each (field_alias_rows t (d + 1)) (aliases_in t m.aliases))
    (after (kept_check t m.default)
    (on_spot m.typed (schema (d + 1)) (no TypeMissing f))))))
    (no NameMissing f)

-- all fields, then their names in order
unfoldable pub fields_rows : (ℕ → ℕ → Out) → List ℕ → ℕ → List ℕ → Out
fields_rows schema t d fs = and_then (each (field_rows schema t d) fs) (after (field_names_check t [] fs) (read []))

unfoldable pub record_rows : (Around → ℕ → ℕ → Out) → List ℕ → Around → ℕ → ℕ → Members → Out
record_rows schema t a d p m =
    definition t a Record d p m 0 (noted 0)
    (λ own. on_spot (as_array t m.fields) (λ v. fields_rows (schema (within own)) t (d + 1) (fields_in t v)) (no FieldsMissing p))

-- ---- enums

unfoldable pub symbol_rows : List ℕ → ℕ → ℕ → Out
symbol_rows t d q = read (row Symbol d q (string_at t q))

unfoldable pub enum_rows : List ℕ → Around → ℕ → ℕ → Members → Out
enum_rows t a d p m =
    definition t a Enum d p m 0 (noted 0)
    (λ own.
    on_spot (as_array t m.symbols)
    (λ v.
    after (symbols_check t (elements t v) then default_check t m.default (elements t v)) (each (symbol_rows t (d + 1)) (elements t v)))
    (no SymbolsMissing p))

-- ---- fixeds: the size before all

unfoldable pub fixed_rows : List ℕ → Around → ℕ → ℕ → Members → Out
fixed_rows t a d p m =
    on_spot m.size
    (λ v. on_spot (size_of t v) (λ size. definition t a Fixed d p m size (note_of t m (over.Fixed size)) (λ own. read [])) (no NotASize v))
    (no SizeMissing p)

-- ---- arrays, maps, unions

-- the object at p and its one part
unfoldable pub part_rows : (Around → ℕ → ℕ → Out) → List ℕ → Around → Kind → ℕ → ℕ → Option ℕ → Out → Out
part_rows schema t a kind d p part missing =
    new_kind t a kind (on_spot part (λ q. rows_then (row kind d p []) (schema (within a.namespace) (d + 1) q)) missing)

-- the member at q of the union at p
abbrev pub as_member : Around → ℕ → ℕ → Around
as_member a p q = record { namespace = a.namespace; standing = MemberOf p q }

unfoldable pub union_rows : (Around → ℕ → ℕ → Out) → List ℕ → Around → ℕ → ℕ → Out
union_rows schema t a d p =
    new_kind t a Union (rows_then (row Union d p []) (each (λ q. schema (as_member a p q) (d + 1) q) (elements t p)))

-- ---- any schema

unfoldable pub schema_by : (Around → ℕ → ℕ → Out) → List ℕ → Around → ℕ → Form → Out
schema_by schema t a d (form.Word q o) = word_rows t a d (word_kind (string_at t q)) q o
schema_by schema t a d (form.ArrayOf p) = part_rows schema t a Array d p (members_of t p).items (no ItemsMissing p)
schema_by schema t a d (form.MapOf p) = part_rows schema t a Map d p (members_of t p).values (no ValuesMissing p)
schema_by schema t a d (form.UnionOf p) = union_rows schema t a d p
schema_by schema t a d (form.RecordOf p) = record_rows schema t a d p (members_of t p)
schema_by schema t a d (form.EnumOf p) = enum_rows t a d p (members_of t p)
schema_by schema t a d (form.FixedOf p) = fixed_rows t a d p (members_of t p)
schema_by schema t a d (form.Wrong f) = refused f

-- the schema at p, in which n more may nest
unfoldable pub schema_of : ℕ → List ℕ → Around → ℕ → ℕ → Out
schema_of zero t a d p = no NestedTooDeep p
schema_of (suc n) t a d p = schema_by (schema_of n t) t a d (form_of t p)

-- the rows of a declaration that was scanned
unfoldable pub rows_of : List ℕ → Out
rows_of t = schema_of most_nested t (within []) 0 (value_start t)

-- a declaration of any bytes: the scan's fault, if it has one, before all
abbrev pub on_scan : Verdict → Out → Out
on_scan (Ok u) next = next
on_scan (Err f) next = refused f

unfoldable pub declared : List ℕ → Out
declared t = on_scan (scanned t) (rows_of t)
