-- What the contracts of the walk cite: from a draft and counts, the rows that were read were pushed.
-- Assumes nothing.
use Rattle.std.specs.Prelude.{ℕ, ◌+◌, ◌-◌, ◌*◌, ◌≤◌, ◌<◌, ◌≡◌, cond, List, [], ◌∷◌, eqb, length, take, drop, Option, Some, Ok, Err, Result}
use Rattle.answer.specs.declared.counts.Counts.{Counts}
use Rattle.answer.specs.declared.refusal.Why.TheVariants.{NameMissing, SymbolsMissing}
use Rattle.name.specs.Name.{namespace_part}
use Rattle.json_scan.specs.Json.{longest}
use Rattle.row.specs.Kinds.{kind_number}
use Rattle.row.specs.Rows.{row_of}
use Rattle.row.specs.declared.kind.Kind.{Kind}
use Rattle.row.specs.declared.kind.Kind.TheVariants.{Bytes, Reference}
use Rattle.row.specs.declared.Entry.{Entry}
use Rattle.row.specs.Memory.{counted_all, pushed_all}
use Rattle.view.specs.declared.members.Members.{Members}
use Rattle.view.specs.Elements.{elements}
use Rattle.view.specs.Strings.{string_at}
use Rattle.view.specs.Values.{shape_at}
use Rattle.form.specs.declared.note.Note.{Note}
use Rattle.rules.specs.declared.standing.Standing.{Standing}
use Rattle.form.specs.Checks.{◌then◌}
use Rattle.form.specs.Spots.{on_spot, is_object, as_text, as_array, aliases_in}
use Rattle.form.specs.Names.{simple_check, defined_at, definition_check}
use Rattle.form.specs.Forms.{word_kind, most_nested}
use Rattle.form.specs.declared.note.Plain.TheVariants as over
use Rattle.form.specs.Notes.{noted, note_of}
use Rattle.rules.specs.Symbols.{symbols_check, default_check}
use Rattle.schema.specs.declared.walked.Defined.{Defined}
use Rattle.schema.specs.Out.{Out, refused, read, rows_then, and_then, after, no, each, Walked}
use Rattle.schema.specs.Schema.{Around, row_with, new_name, new_kind, reference_rows, alias_rows, field_alias_rows, field_row, kept_check, field_rows, symbol_rows}
use Rattle.answer.specs.declared.refusal.Fault.{Fault}

-- from the draft m with the counts c, a function that answered r and left m' did what o says; a draft that was refused holds anything
abbrev pub Did' : List ℕ → Counts → List ℕ → Walked → Out → Type 0
Did' m c m' r (refused f) = r ≡ Err f
Did' m c m' r (read rows) = (r ≡ Ok (counted_all c rows)) × (m' ≡ pushed_all m c rows)

pub record Did (m : List ℕ) (c : Counts) (m' : List ℕ) (r : Walked) (o : Out) : Type 0 where
  pub did : Did' m c m' r o

-- a definition's name, its row and its aliases were read: the length of its full name, and the counts with its rows
abbrev pub defined_as : ℕ → Counts → Result Defined Fault
defined_as n c = Ok (record { name = n; next = c })

-- the same for a definition, whose full name is then in the buffer
abbrev pub Titled' : List ℕ → Counts → List ℕ → Result Defined Fault → List ℕ → List ℕ → Out → Type 0
Titled' m c m' r buffer full (refused f) = r ≡ Err f
Titled' m c m' r buffer full (read rows) =
    (n : ℕ) × (r ≡ defined_as n (counted_all c rows)) × (m' ≡ pushed_all m c rows) × (n ≤ length buffer) × (take (n - 0) (drop 0 buffer) ≡ full)

pub record Titled (m : List ℕ) (c : Counts) (m' : List ℕ) (r : Result Defined Fault) (buffer full : List ℕ) (o : Out) : Type 0 where
  pub titled : Titled' m c m' r buffer full o

-- a row, all but its string
abbrev pub entry : Kind → ℕ → ℕ → ℕ → Note → Entry
entry kind depth position size n = record {
  kind = kind;
  depth = depth;
  position = position;
  size = size;
  note = n.note;
  precision = n.precision;
  scale = n.scale;
}

abbrev pub around : List ℕ → Standing → Around
around namespace standing = record { namespace = namespace; standing = standing }

-- ---- parts of what is read

-- a string, by the members of the object whose `type` it is
unfoldable pub primitive_with : List ℕ → Around → ℕ → Kind → ℕ → Members → Out
primitive_with t a d kind q m =
    new_kind t a kind (read (row_with kind d q [] 0 (cond (eqb (kind_number kind) (kind_number Bytes)) (note_of t m over.Bytes) (noted 0)) ∷ []))

unfoldable pub word_with : List ℕ → Around → ℕ → ℕ → Members → Out
word_with t a d q m =
    cond (eqb (kind_number (word_kind (string_at t q))) (kind_number Reference)) (reference_rows t a d q)
    (primitive_with t a d (word_kind (string_at t q)) q m)

-- a definition up to its aliases, its full name being known
unfoldable pub headed : List ℕ → Around → Entry → List ℕ → Option ℕ → Out
headed t a e full aliases =
    new_name t a full (rows_then (row_of e full ∷ []) (each (alias_rows t (namespace_part full) (e.depth + 1)) (aliases_in t aliases)))

unfoldable pub head_rows : List ℕ → Around → Kind → ℕ → ℕ → Members → ℕ → Note → Out
head_rows t a kind d p m size note =
    on_spot (as_text t m.name)
    (λ q. after (definition_check t a.namespace m q) (headed t a (entry kind d q size note) (defined_at t a.namespace m q) m.aliases))
    (no NameMissing p)

-- an enum behind that
unfoldable pub symbols_rows : List ℕ → ℕ → ℕ → Members → Out
symbols_rows t d p m =
    on_spot (as_array t m.symbols)
    (λ v. after (symbols_check t (elements t v) then default_check t m.default (elements t v)) (each (symbol_rows t d) (elements t v)))
    (no SymbolsMissing p)

-- a field up to its type, by its members
unfoldable pub field_head : List ℕ → ℕ → ℕ → Members → Out
field_head t d f m =
    on_spot (as_text t m.name)
    (λ q.
    after (simple_check t q)
    (rows_then (field_row t d q m.default ∷ [])
    (and_then (each (field_alias_rows t (d + 1)) (aliases_in t m.aliases))
    (after (kept_check t m.default) (read [])))))
    (no NameMissing f)

-- an element of `fields`: what is no object is no field
unfoldable pub element_rows : (ℕ → ℕ → Out) → List ℕ → ℕ → ℕ → Out
element_rows schema t d p = cond (is_object (shape_at t p)) (field_rows schema t d p) (read [])

-- a value's place, where there is one, stands within the text
pub record InText (t : List ℕ) (s : Option ℕ) : Type 0 where
  pub within : (v : ℕ) → s ≡ Some v → v < length t

-- what a walk asks: each schema in a schema is at most two deeper
pub record Asks (t : List ℕ) (depth left : ℕ) : Type 0 where
  pub short : length t ≤ longest
  pub deep : depth + 2 * left ≤ 2 * most_nested
