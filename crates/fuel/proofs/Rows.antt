-- Two readers that agree on every schema one bracket further in give the same rows of a schema.
-- Assumes nothing.
use Rattle.std.specs.Prelude.{Option, Some}
use mathlib.Core.Path.{◌≡◌, refl, ap, ◌∙◌}
use mathlib.Core.List.{List, [], ◌∷◌}
use Prim.Native.Nat.{ℕ, suc, ◌+◌}
use Rattle.answer.specs.declared.refusal.Why.TheVariants.{NameMissing, TypeMissing, FieldsMissing, ItemsMissing, ValuesMissing}
use Rattle.name.specs.Name.{namespace_part}
use Rattle.row.specs.declared.kind.Kind.{Kind}
use Rattle.row.specs.declared.kind.Kind.TheVariants.{Array, Map, Union, Record}
use Rattle.view.specs.Elements.{elements}
use Rattle.view.specs.Members.{members_of}
use Rattle.view.specs.declared.members.Members.{Members}
use Rattle.view.proofs.Laws.{All}
use Rattle.form.specs.declared.forms.Form.{Form}
use Rattle.form.specs.declared.forms.Form.TheVariants as form
use Rattle.form.specs.declared.note.Note.{Note}
use Rattle.form.specs.Spots.{as_text, as_array, aliases_in, fields_in}
use Rattle.form.specs.Names.{simple_check, defined_at, definition_check}
use Rattle.form.specs.Notes.{noted}
use Rattle.rules.specs.Fields.{field_names_check}
use Rattle.schema.specs.Out.{Out, read, rows_then, and_then, after, no, each}
use Rattle.schema.specs.Schema.{row_with, row, Around, within, new_name, new_kind, alias_rows, definition_rows, definition, field_alias_rows, field_row, kept_check, field_rows, fields_rows, record_rows, part_rows, as_member, union_rows, schema_by}
use Rattle.fuel.proofs.Deep.{Deep, Opens, deep_less, deep_elements, fields_open}
use Rattle.fuel.proofs.Forms.{Stands, spot_same, typed_deep, items_at, values_at, fields_at}

-- ---- the pieces

each_same : {P : ℕ → Type 0} {f g : ℕ → Out} → ((q : ℕ) → P q → f q ≡ g q) → (ps : List ℕ) → All P ps → each f ps ≡ each g ps
unfolding each
each_same h [] a = refl
each_same {f = f} {g = g} h (p ∷ ps) a = ap (λ (x : Out). and_then x (each f ps)) (h p a.0) ∙ ap (and_then (g p)) (each_same h ps a.1)

definition_same : (t : List ℕ) (a : Around) (k : Kind) (d p : ℕ) (ms : Members) (size : ℕ) (n : Note) {f g : List ℕ → Out} → ((own : List ℕ) → f own ≡ g own)
    → definition t a k d p ms size n f ≡ definition t a k d p ms size n g
unfolding definition definition_rows
definition_same t a k d p ms size n h =
    spot_same (as_text t ms.name) (no NameMissing p)
    (λ q e.
    let full = defined_at t a.namespace ms q in
    let own = namespace_part full in
    ap (λ (x : Out). after (definition_check t a.namespace ms q) (new_name t a full (rows_then (row_with k d q full size n ∷ []) (and_then (each (alias_rows t own (d + 1)) (aliases_in t ms.aliases)) x)))) (h own))

module _ (t : List ℕ) (m : ℕ) {s s' : Around → ℕ → ℕ → Out} (same : (a : Around) (d q : ℕ) → Deep t (suc m) q → s a d q ≡ s' a d q) where
  part_same : (a : Around) (k : Kind) (d p : ℕ) (part : Option ℕ) (x : Out) → ((q : ℕ) → part ≡ Some q → Deep t (suc m) q)
      → part_rows s t a k d p part x ≡ part_rows s' t a k d p part x
  unfolding part_rows
  part_same a k d p part x h =
      ap (new_kind t a k) (spot_same part x (λ q e. ap (rows_then (row k d p [])) (same (within a.namespace) (d + 1) q (h q e))))

  union_same : (a : Around) (d p : ℕ) → Opens t m 91 p → union_rows s t a d p ≡ union_rows s' t a d p
  unfolding union_rows
  union_same a d p o =
      ap (λ (x : Out). new_kind t a Union (rows_then (row Union d p []) x))
      (each_same {P = Deep t (suc m)} (λ q i. same (as_member a p q) (d + 1) q i) (elements t p) (deep_elements t m p o))

  -- a field's type stands in the field's brace, which stands in the record's brace and the bracket of its fields
  field_same : (a : Around) (d f : ℕ) → Opens t (suc (suc m)) 123 f → field_rows (s a) t d f ≡ field_rows (s' a) t d f
  unfolding field_rows
  field_same a d f o =
      let ms = members_of t f in
      spot_same (as_text t ms.name) (no NameMissing f)
      (λ q e.
      ap (λ (x : Out). after (simple_check t q) (rows_then (field_row t d q ms.default ∷ []) (and_then (each (field_alias_rows t (d + 1)) (aliases_in t ms.aliases)) (after (kept_check t ms.default) x))))
      (spot_same ms.typed (no TypeMissing f) (λ v g. same a (d + 1) v (deep_less (deep_less (typed_deep t (suc (suc m)) f o v g))))))

  fields_same : (a : Around) (d : ℕ) (fs : List ℕ) → All (Opens t (suc (suc m)) 123) fs → fields_rows (s a) t d fs ≡ fields_rows (s' a) t d fs
  unfolding fields_rows
  fields_same a d fs o =
      ap (λ (x : Out). and_then x (after (field_names_check t [] fs) (read []))) (each_same {P = Opens t (suc (suc m)) 123} (λ f i. field_same a d f i) fs o)

  record_same : (a : Around) (d p : ℕ) → Opens t m 123 p → record_rows s t a d p (members_of t p) ≡ record_rows s' t a d p (members_of t p)
  unfolding record_rows
  record_same a d p o =
      definition_same t a Record d p (members_of t p) 0 (noted 0)
      (λ own. spot_same (as_array t (members_of t p).fields) (no FieldsMissing p)
      (λ v e. fields_same (within own) (d + 1) (fields_in t v) (fields_open t (suc m) v (fields_at t m p o v e))))

  -- ---- any schema

  pub rows_same : (a : Around) (d : ℕ) (f : Form) → Stands t m f → schema_by s t a d f ≡ schema_by s' t a d f
  unfolding schema_by
  rows_same a d (form.Word q o) i = refl
  rows_same a d (form.ArrayOf p) i = part_same a Array d p (members_of t p).items (no ItemsMissing p) (items_at t m p i)
  rows_same a d (form.MapOf p) i = part_same a Map d p (members_of t p).values (no ValuesMissing p) (values_at t m p i)
  rows_same a d (form.UnionOf p) i = union_same a d p i
  rows_same a d (form.RecordOf p) i = record_same a d p i
  rows_same a d (form.EnumOf p) i = refl
  rows_same a d (form.FixedOf p) i = refl
  rows_same a d (form.Wrong f) i = refl
