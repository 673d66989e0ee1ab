-- Reading a schema, part by part: each fault is fair.
-- Assumes nothing.
use Rattle.std.specs.Prelude.{Option, Some, None}
use mathlib.Core.Path.{◌≡◌, refl}
use mathlib.Core.Bool.{Bool, true, false, cond}
use mathlib.Core.List.{List, [], ◌∷◌}
use Prim.Native.Nat.{ℕ, zero, suc, ◌+◌}
use lib.Dec.{eqb}
use Rattle.answer.specs.declared.refusal.Why.TheVariants.{NestedTooDeep, NotASchema, TypeMissing, NameMissing, FieldsMissing, SymbolsMissing, SizeMissing, NotASize, ItemsMissing, ValuesMissing, DefaultTooLong}
use Rattle.ground.specs.Ascii.{ascii}
use Rattle.ground.specs.Bytes.{same}
use Rattle.name.specs.Name.{namespace_part}
use Rattle.name.specs.Full.{is_short}
use Rattle.row.specs.Kinds.{kind_number}
use Rattle.row.specs.declared.kind.Kind.{Kind}
use Rattle.row.specs.declared.kind.Kind.TheVariants.{Reference, Array, Map, Union, Record, Enum, Fixed}
use Rattle.view.specs.declared.shape.Shape.{Shape}
use Rattle.view.specs.declared.shape.Shape.TheVariants as shape
use Rattle.view.specs.declared.members.Members.{Members}
use Rattle.view.specs.Values.{shape_at}
use Rattle.view.specs.Elements.{elements}
use Rattle.view.specs.Members.{members_of}
use Rattle.view.specs.Size.{size_of}
use Rattle.view.specs.Strings.{string_at}
use Rattle.view.proofs.Laws.{All}
use Rattle.form.specs.declared.forms.Form.{Form}
use Rattle.form.specs.declared.forms.Form.TheVariants as form
use Rattle.form.specs.declared.note.Note.{Note}
use Rattle.form.specs.Checks.{fault, ◌then◌}
use Rattle.form.specs.Spots.{on_spot, is_text, as_text, as_array, aliases_in, fields_in}
use Rattle.form.specs.Names.{simple_check, full_at, reference_check, alias_check, defined_at, definition_check}
use Rattle.form.specs.Forms.{word_kind, object_form, form_by, form_within, form_of, most_nested}
use Rattle.form.specs.declared.note.Plain.TheVariants as over
use Rattle.form.specs.Notes.{noted, note_of}
use Rattle.rules.specs.Unions.{called, unnamed, union_check}
use Rattle.rules.specs.Fields.{field_names_check}
use Rattle.rules.specs.Symbols.{symbols_check, default_check}
use Rattle.schema.specs.Out.{Out, read, rows_then, and_then, after, no, each}
use Rattle.schema.specs.Schema.{row_with, row, Around, within, new_name, new_kind, reference_rows, primitive_rows, word_rows, alias_rows, definition_rows, definition, field_alias_rows, written_at, field_row, kept_check, field_rows, fields_rows, record_rows, symbol_rows, enum_rows, fixed_rows, part_rows, as_member, union_rows, schema_by, schema_of}
use Rattle.told.proofs.Fair.{Fair, other, FairCheck, must_other, FairOut, then_fair, after_fair, rows_fair, and_fair, each_fair, spot_fair, cond_fair}
use Rattle.told.proofs.Strings.{Quoted, text_quoted, as_text_lem, aliases_quoted, simple_fair, reference_fair, alias_fair, definition_fair, symbols_fair, default_fair, fields_fair, union_fair}

-- any places
everywhere : (qs : List ℕ) → All (λ _. Unit {0}) qs
everywhere [] = tt
everywhere (q ∷ qs) = (tt, everywhere qs)

module _ (t : List ℕ) where
  -- ---- what a schema is

  abbrev pub FairForm : Form → Type 0
  FairForm (form.Word q o) = Quoted t q
  FairForm (form.ArrayOf p) = Unit {0}
  FairForm (form.MapOf p) = Unit {0}
  FairForm (form.UnionOf p) = Unit {0}
  FairForm (form.RecordOf p) = Unit {0}
  FairForm (form.EnumOf p) = Unit {0}
  FairForm (form.FixedOf p) = Unit {0}
  FairForm (form.Wrong f) = Fair t f

  object_fair : (w : List ℕ) (p q : ℕ) → Quoted t q → FairForm (object_form w p q)
  unfolding object_form
  object_fair w p q o = go (same w (ascii "record")) (same w (ascii "enum")) (same w (ascii "fixed")) (same w (ascii "array")) (same w (ascii "map"))
    where
      go : (a b c d e : Bool)
          → FairForm (cond a (form.RecordOf p) (cond b (form.EnumOf p) (cond c (form.FixedOf p) (cond d (form.ArrayOf p) (cond e (form.MapOf p) (form.Word q (Some p)))))))
      go true b c d e = tt
      go false true c d e = tt
      go false false true d e = tt
      go false false false true e = tt
      go false false false false true = tt
      go false false false false false = o

  by_fair : (f : ℕ → Form) → ((q : ℕ) → FairForm (f q)) → (p : ℕ) (s : Shape) → shape_at t p ≡ s → FairForm (form_by f t p s)
  unfolding form_by
  by_fair f h p shape.Text e = text_quoted t p (rw e)
  by_fair f h p shape.Number e = other t NotASchema p refl
  by_fair f h p shape.Array e = tt
  by_fair f h p shape.Word e = other t NotASchema p refl
  by_fair f h p shape.Nothing e = other t NotASchema p refl
  by_fair f h p shape.Object e = go (members_of t p).typed
    where
      pick : (q : ℕ) (b : Bool) → is_text (shape_at t q) ≡ b → FairForm (cond b (object_form (string_at t q) p q) (f q))
      pick q true i = object_fair (string_at t q) p q (text_quoted t q i)
      pick q false i = h q

      go : (s : Option ℕ) → FairForm (on_spot s (λ q. cond (is_text (shape_at t q)) (object_form (string_at t q) p q) (f q)) (form.Wrong (fault TypeMissing p)))
      go (Some q) = pick q (is_text (shape_at t q)) refl
      go None = other t TypeMissing p refl

  pub form_fair : (n p : ℕ) → FairForm (form_within n t p)
  unfolding form_within
  form_fair zero p = other t NestedTooDeep p refl
  form_fair (suc n) p = by_fair (form_within n t) (form_fair n) p (shape_at t p) refl

  -- ---- 19

  new_name_lem : (a : Around) (full : List ℕ) (o : Out) → FairOut t o → FairOut t (new_name t a full o)
  new_name_lem a full o g = after_fair t (union_check t a.namespace a.standing (called full)) o (union_fair t a.namespace a.standing (called full)) g

  new_kind_lem : (a : Around) (k : Kind) (o : Out) → FairOut t o → FairOut t (new_kind t a k o)
  new_kind_lem a k o g = after_fair t (union_check t a.namespace a.standing (unnamed k)) o (union_fair t a.namespace a.standing (unnamed k)) g

  -- ---- words

  word_fair : (a : Around) (d : ℕ) (k : Kind) (q : ℕ) (o : Option ℕ) → Quoted t q → FairOut t (word_rows t a d k q o)
  unfolding word_rows reference_rows primitive_rows
  word_fair a d k q o i =
      cond_fair t (eqb (kind_number k) (kind_number Reference)) (reference_rows t a d q) (primitive_rows t a d k q o)
      (after_fair t (reference_check t a.namespace q) _ (reference_fair t q i a.namespace) (new_name_lem a (full_at t a.namespace q) _ tt))
      (new_kind_lem a k _ tt)

  -- ---- definitions

  alias_row : (n : List ℕ) (d q : ℕ) → Quoted t q → FairOut t (alias_rows t n d q)
  unfolding alias_rows
  alias_row n d q o = after_fair t (alias_check t n q) _ (alias_fair t q o n) tt

  named_fair : (a : Around) (k : Kind) (d : ℕ) (m : Members) (q size : ℕ) (note : Note) (rest : List ℕ → Out) → ((own : List ℕ) → FairOut t (rest own)) → Quoted t q
      → FairOut t (definition_rows t a k d m q size note rest)
  unfolding definition_rows
  named_fair a k d m q size note rest h o =
      let full = defined_at t a.namespace m q in
      let own = namespace_part full in
      let aliases = each (alias_rows t own (d + 1)) (aliases_in t m.aliases) in
      after_fair t (definition_check t a.namespace m q) _ (definition_fair t q o a.namespace m)
      (new_name_lem a full _
      (rows_fair t (row_with k d q full size note ∷ []) (and_then aliases (rest own))
      (and_fair t aliases (rest own) (each_fair t (Quoted t) (alias_rows t own (d + 1)) (alias_row own (d + 1)) (aliases_in t m.aliases) (aliases_quoted t m.aliases)) (h own))))

  defined_fair : (a : Around) (k : Kind) (d p : ℕ) (m : Members) (size : ℕ) (note : Note) (rest : List ℕ → Out) → ((own : List ℕ) → FairOut t (rest own))
      → FairOut t (definition t a k d p m size note rest)
  unfolding definition
  defined_fair a k d p m size note rest h =
      spot_fair t (as_text t m.name) (λ q. definition_rows t a k d m q size note rest) (no NameMissing p)
      (λ q e. named_fair a k d m q size note rest h (as_text_lem t m.name q e)) (other t NameMissing p refl)

  -- ---- fields

  field_alias_row : (d q : ℕ) → Quoted t q → FairOut t (field_alias_rows t d q)
  unfolding field_alias_rows
  field_alias_row d q o = after_fair t (simple_check t q) _ (simple_fair t q o) tt

  -- 48
  kept_fair : (s : Option ℕ) → FairCheck t (kept_check t s)
  unfolding kept_check
  kept_fair (Some v) = must_other t (is_short (written_at t v)) DefaultTooLong v refl
  kept_fair None = tt

  field_fair : (schema : ℕ → ℕ → Out) → ((d q : ℕ) → FairOut t (schema d q)) → (d f : ℕ) → FairOut t (field_rows schema t d f)
  unfolding field_rows
  field_fair schema h d f =
      let m = members_of t f in
      let aliases = each (field_alias_rows t (d + 1)) (aliases_in t m.aliases) in
      let kept = kept_check t m.default in
      let typed = on_spot m.typed (schema (d + 1)) (no TypeMissing f) in
      spot_fair t (as_text t m.name) (λ q. after (simple_check t q) (rows_then (field_row t d q m.default ∷ []) (and_then aliases (after kept typed)))) (no NameMissing f)
      (λ q e.
      after_fair t (simple_check t q) _ (simple_fair t q (as_text_lem t m.name q e))
      (rows_fair t (field_row t d q m.default ∷ []) (and_then aliases (after kept typed))
      (and_fair t aliases (after kept typed)
      (each_fair t (Quoted t) (field_alias_rows t (d + 1)) (field_alias_row (d + 1)) (aliases_in t m.aliases) (aliases_quoted t m.aliases))
      (after_fair t kept typed (kept_fair m.default)
      (spot_fair t m.typed (schema (d + 1)) (no TypeMissing f) (λ p _. h (d + 1) p) (other t TypeMissing f refl))))))
      (other t NameMissing f refl)

  fields_rows_lem : (schema : ℕ → ℕ → Out) → ((d q : ℕ) → FairOut t (schema d q)) → (d : ℕ) (fs : List ℕ) → FairOut t (fields_rows schema t d fs)
  unfolding fields_rows
  fields_rows_lem schema h d fs =
      and_fair t (each (field_rows schema t d) fs) _ (each_fair t (λ _. Unit {0}) (field_rows schema t d) (λ f _. field_fair schema h d f) fs (everywhere fs))
      (after_fair t (field_names_check t [] fs) _ (fields_fair t [] fs) tt)

  -- ---- enums and fixeds

  enum_fair : (a : Around) (d p : ℕ) (m : Members) → FairOut t (enum_rows t a d p m)
  unfolding enum_rows symbol_rows
  enum_fair a d p m = defined_fair a Enum d p m 0 (noted 0) _ (λ own. spot_fair t (as_array t m.symbols) _ (no SymbolsMissing p) (λ v _. go v) (other t SymbolsMissing p refl))
    where
      go : (v : ℕ)
          → FairOut t (after (symbols_check t (elements t v) then default_check t m.default (elements t v)) (each (symbol_rows t (d + 1)) (elements t v)))
      go v =
          after_fair t (symbols_check t (elements t v) then default_check t m.default (elements t v)) (each (symbol_rows t (d + 1)) (elements t v))
          (then_fair t (symbols_check t (elements t v)) (default_check t m.default (elements t v)) (symbols_fair t (elements t v)) (λ _. default_fair t m.default (elements t v)))
          (each_fair t (λ _. Unit {0}) (symbol_rows t (d + 1)) (λ q _. tt) (elements t v) (everywhere (elements t v)))

  fixed_fair : (a : Around) (d p : ℕ) (m : Members) → FairOut t (fixed_rows t a d p m)
  unfolding fixed_rows
  fixed_fair a d p m = spot_fair t m.size _ (no SizeMissing p) (λ v _. go v (size_of t v)) (other t SizeMissing p refl)
    where
      go : (v : ℕ) (s : Option ℕ) → FairOut t (on_spot s (λ size. definition t a Fixed d p m size (note_of t m (over.Fixed size)) (λ own. read [])) (no NotASize v))
      go v (Some size) = defined_fair a Fixed d p m size (note_of t m (over.Fixed size)) (λ own. read []) (λ own. tt)
      go v None = other t NotASize v refl

  -- ---- any schema, by a reader of the schemas in it
  module _ (schema : Around → ℕ → ℕ → Out) (h : (a : Around) (d q : ℕ) → FairOut t (schema a d q)) where
    part_fair : (a : Around) (k : Kind) (d p : ℕ) (part : Option ℕ) (missing : Out) → FairOut t missing → FairOut t (part_rows schema t a k d p part missing)
    unfolding part_rows
    part_fair a k d p part missing g =
        new_kind_lem a k _
        (spot_fair t part _ missing (λ q _. rows_fair t (row k d p []) (schema (within a.namespace) (d + 1) q) (h (within a.namespace) (d + 1) q)) g)

    union_rows_lem : (a : Around) (d p : ℕ) → FairOut t (union_rows schema t a d p)
    unfolding union_rows
    union_rows_lem a d p =
        new_kind_lem a Union _
        (rows_fair t (row Union d p []) (each (λ q. schema (as_member a p q) (d + 1) q) (elements t p))
        (each_fair t (λ _. Unit {0}) (λ q. schema (as_member a p q) (d + 1) q) (λ q _. h (as_member a p q) (d + 1) q) (elements t p) (everywhere (elements t p))))

    record_fair : (a : Around) (d p : ℕ) (m : Members) → FairOut t (record_rows schema t a d p m)
    unfolding record_rows
    record_fair a d p m =
        defined_fair a Record d p m 0 (noted 0) _
        (λ own.
        spot_fair t (as_array t m.fields) (λ v. fields_rows (schema (within own)) t (d + 1) (fields_in t v)) (no FieldsMissing p)
        (λ v _. fields_rows_lem (schema (within own)) (h (within own)) (d + 1) (fields_in t v)) (other t FieldsMissing p refl))

    pub schema_by_lem : (a : Around) (d : ℕ) (f : Form) → FairForm f → FairOut t (schema_by schema t a d f)
    unfolding schema_by
    schema_by_lem a d (form.Word q o) g = word_fair a d (word_kind (string_at t q)) q o g
    schema_by_lem a d (form.ArrayOf p) g = part_fair a Array d p (members_of t p).items (no ItemsMissing p) (other t ItemsMissing p refl)
    schema_by_lem a d (form.MapOf p) g = part_fair a Map d p (members_of t p).values (no ValuesMissing p) (other t ValuesMissing p refl)
    schema_by_lem a d (form.UnionOf p) g = union_rows_lem a d p
    schema_by_lem a d (form.RecordOf p) g = record_fair a d p (members_of t p)
    schema_by_lem a d (form.EnumOf p) g = enum_fair a d p (members_of t p)
    schema_by_lem a d (form.FixedOf p) g = fixed_fair a d p (members_of t p)
    schema_by_lem a d (form.Wrong f) g = g

  pub schema_fair : (n : ℕ) (a : Around) (d p : ℕ) → FairOut t (schema_of n t a d p)
  unfolding schema_of
  schema_fair zero a d p = other t NestedTooDeep p refl
  schema_fair (suc n) a d p = schema_by_lem (schema_of n t) (schema_fair n) a d (form_of t p) (form_fair most_nested p)
