-- Any schema, by its form: one law for each way out of the code.
-- Assumes nothing.
use Rattle.std.specs.Prelude.{Option, Some, None, Ok, Err, Result}
use mathlib.Core.Path.{◌≡◌, refl, sym, ap, ◌∙◌, subst}
use mathlib.Core.Bool.{Bool, true, false, cond}
use mathlib.Core.List.{List, [], ◌∷◌}
use Prim.Native.Nat.{ℕ, zero, suc, ◌+◌, ◌-◌, ◌≤◌}
use native.Mathlib.Numerals.{sub-one}
use native.Mathlib.Omega.{arith}
use lib.Dec.{eqb, ltb}
use lib.ListN.{length, take, drop}
use borrow.Author.Tests.{ltb-false}
use Rattle.std.specs.Prelude.{Ok, Err}
use Rattle.answer.specs.declared.counts.Counts.{Counts}
use Rattle.answer.specs.declared.refusal.Fault.{Fault}
use Rattle.answer.specs.declared.refusal.Why.TheVariants.{TextTooLong, NestedTooDeep, TypeMissing, NameMissing, FieldsMissing, ItemsMissing, ValuesMissing}
use Rattle.json_scan.specs.Json as json
use Rattle.json_scan.specs.Json.{scanned, verdict, longest, Verdict}
use Rattle.name.specs.Name.{namespace_part}
use Rattle.row.specs.Kinds.{kind_number}
use Rattle.row.specs.Rows.{Row}
use Rattle.row.specs.Memory.{counted, pushed}
use Rattle.row.specs.declared.kind.Kind.{Kind}
use Rattle.row.specs.declared.kind.Kind.TheVariants.{Bytes, Reference, Array, Map, Union, Record}
use Rattle.view.specs.declared.members.Members.{Members}
use Rattle.view.specs.Elements.{first_element, next_element, elements_at}
use Rattle.view.specs.Members.{members_of}
use Rattle.view.specs.Strings.{string_at}
use Rattle.view.specs.Values.{shape_at, value_start}
use Rattle.view.proofs.Laws.{left_start}
use Rattle.form.specs.declared.forms.Form.{Form}
use Rattle.form.specs.declared.forms.Form.TheVariants as form
use Rattle.form.specs.declared.forms.Found.{Found}
use Rattle.form.specs.declared.note.Note.{Note}
use Rattle.rules.specs.declared.standing.Standing.{Standing}
use Rattle.rules.specs.declared.standing.Standing.TheVariants.{MemberOf}
use Rattle.form.specs.Checks.{fault, Check}
use Rattle.form.specs.Spots.{on_spot, is_object, as_text, as_array, aliases_in, objects_among, fields_in}
use Rattle.form.specs.Names.{simple_check}
use Rattle.form.specs.Forms.{word_kind, form_of, no_members, found_of, most_nested}
use Rattle.form.specs.declared.note.Plain.TheVariants as over
use Rattle.form.specs.Notes.{noted, note_of, is_decimal}
use Rattle.rules.specs.Fields.{field_names_check}
use Rattle.rules.specs.Unions.{unnamed, union_check, name_of}
use Rattle.form.proofs.Laws.{found_form, found_members}
use Rattle.schema.specs.declared.walked.Defined.{Defined}
use Rattle.schema.specs.Out.{Out, refused, read, rows_then, and_then, after, no, each, Walked}
use Rattle.schema.specs.Schema.{Around, within, row_with, new_kind, reference_rows, primitive_rows, word_rows, field_alias_rows, field_row, kept_check, field_rows, fields_rows, record_rows, enum_rows, fixed_rows, part_rows, union_rows, schema_by, schema_of, rows_of, declared}
use Rattle.schema.specs.Did.{Did, Titled, around, primitive_with, word_with, head_rows, field_head, element_rows, defined_as}
use Rattle.schema.proofs.Did.{did_bad, did_eq, did_after, did_stop, did_then, did_fault, did_fine, did_titled, did_untitled, titled_front, none_then, rows_then_lem, part_then, after_then}
use Rattle.schema.proofs.Steps.{objects_done, objects_next}
use Rattle.schema.proofs.Headed.{definition_then}

-- ---- by its form

pub schema_deep : (left : ℕ) (t : List ℕ) (a : Around) (d p : ℕ) → left ≡ 0 → schema_of left t a d p ≡ refused (fault NestedTooDeep p)
unfolding schema_of
schema_deep left t a d p e = rw e refl

by_form : (left : ℕ) (t : List ℕ) (a : Around) (d p : ℕ) → (left ≡ 0 → ⊥) → {f : Form} → form_of t p ≡ f → schema_of left t a d p ≡ schema_by (schema_of (left - 1) t) t a d f
unfolding schema_of
by_form zero t a d p n e = absurd (n refl)
by_form (suc left) t a d p n e = rw (sub-one) (ap (schema_by (schema_of left t) t a d) e)

note_in : (t : List ℕ) (o : Option ℕ) → on_spot o (λ p. note_of t (members_of t p) over.Bytes) (noted 0) ≡ note_of t (on_spot o (members_of t) no_members) over.Bytes
unfolding note_of is_decimal as_text
note_in t (Some p) = refl
note_in t None = refl

word_is : (t : List ℕ) (a : Around) (d q : ℕ) (o : Option ℕ) → word_rows t a d (word_kind (string_at t q)) q o ≡ word_with t a d q (on_spot o (members_of t) no_members)
unfolding word_rows word_with primitive_rows primitive_with
word_is t a d q o =
    let k = word_kind (string_at t q) in
    ap (λ (n : Note). cond (eqb (kind_number k) (kind_number Reference)) (reference_rows t a d q)
    (new_kind t a k (read (row_with k d q [] 0 (cond (eqb (kind_number k) (kind_number Bytes)) n (noted 0)) ∷ [])))) (note_in t o)

module _ (left : ℕ) (t : List ℕ) (a : Around) (d p : ℕ) (n : left ≡ 0 → ⊥) {x : Found} (e : x ≡ found_of t (form_of t p)) where
  pub schema_wrong : {f : Fault} → x.form ≡ form.Wrong f → schema_of left t a d p ≡ refused f
  unfolding schema_by
  schema_wrong g = by_form left t a d p n (found_form t p e g)

  pub schema_word : {q : ℕ} {o : Option ℕ} → x.form ≡ form.Word q o → schema_of left t a d p ≡ word_with t a d q x.members
  unfolding schema_by found_of
  schema_word {q} {o} g =
      by_form left t a d p n (found_form t p e g) ∙ word_is t a d q o ∙ ap (word_with t a d q) (sym (found_members t p e g))

  pub schema_array : {q : ℕ} → x.form ≡ form.ArrayOf q → schema_of left t a d p ≡ part_rows (schema_of (left - 1) t) t a Array d q x.members.items (refused (fault ItemsMissing q))
  unfolding schema_by found_of
  schema_array {q} g =
      by_form left t a d p n (found_form t p e g)
      ∙ ap (λ (m : Members). part_rows (schema_of (left - 1) t) t a Array d q m.items (refused (fault ItemsMissing q))) (sym (found_members t p e g))

  pub schema_map : {q : ℕ} → x.form ≡ form.MapOf q → schema_of left t a d p ≡ part_rows (schema_of (left - 1) t) t a Map d q x.members.values (refused (fault ValuesMissing q))
  unfolding schema_by found_of
  schema_map {q} g =
      by_form left t a d p n (found_form t p e g)
      ∙ ap (λ (m : Members). part_rows (schema_of (left - 1) t) t a Map d q m.values (refused (fault ValuesMissing q))) (sym (found_members t p e g))

  pub schema_union : {q : ℕ} → x.form ≡ form.UnionOf q → schema_of left t a d p ≡ union_rows (schema_of (left - 1) t) t a d q
  unfolding schema_by
  schema_union g = by_form left t a d p n (found_form t p e g)

  pub schema_record : {q : ℕ} → x.form ≡ form.RecordOf q → schema_of left t a d p ≡ record_rows (schema_of (left - 1) t) t a d q x.members
  unfolding schema_by found_of
  schema_record {q} g = by_form left t a d p n (found_form t p e g) ∙ ap (record_rows (schema_of (left - 1) t) t a d q) (sym (found_members t p e g))

  pub schema_enum : {q : ℕ} → x.form ≡ form.EnumOf q → schema_of left t a d p ≡ enum_rows t a d q x.members
  unfolding schema_by found_of
  schema_enum {q} g = by_form left t a d p n (found_form t p e g) ∙ ap (enum_rows t a d q) (sym (found_members t p e g))

  pub schema_fixed : {q : ℕ} → x.form ≡ form.FixedOf q → schema_of left t a d p ≡ fixed_rows t a d q x.members
  unfolding schema_by found_of
  schema_fixed {q} g = by_form left t a d p n (found_form t p e g) ∙ ap (fixed_rows t a d q) (sym (found_members t p e g))

-- ---- arrays and maps

module _ (schema : Around → ℕ → ℕ → Out) (t namespace : List ℕ) (standing : Standing) (kind : Kind) (d p : ℕ) (part : Option ℕ) (x : Fault) {m m' : List ℕ} {c : Counts}
    {r : Check} (e : (ns : List ℕ) → r ≡ union_check t ns standing (unnamed kind)) where
  pub part_old : {f : Fault} → r ≡ Err f → Did m c m' (Err f) (part_rows schema t (around namespace standing) kind d p part (refused x))
  unfolding part_rows
  part_old g = did_fault (union_check t namespace standing (unnamed kind)) _ (sym (e namespace) ∙ g)

  pub part_none : r ≡ Ok tt → part ≡ None → Did m c m' (Err x) (part_rows schema t (around namespace standing) kind d p part (refused x))
  unfolding part_rows
  part_none g h = did_fine (union_check t namespace standing (unnamed kind)) _ (sym (e namespace) ∙ g) (rw h (did_bad m m' c x))

  pub part_one : {m'' : List ℕ} {c'' : Counts} {r'' : Walked} {q : ℕ} → r ≡ Ok tt → part ≡ Some q → (c'' ≡ counted c 0) × (m'' ≡ pushed m c (row_with kind d p [] 0 (noted 0)))
      → Did m'' c'' m' r'' (schema (within namespace) (d + 1) q) → Did m c m' r'' (part_rows schema t (around namespace standing) kind d p part (refused x))
  unfolding part_rows
  part_one g h i j =
      did_fine (union_check t namespace standing (unnamed kind)) _ (sym (e namespace) ∙ g)
      (rw h (did_after (row_with kind d p [] 0 (noted 0)) _ refl i.0 i.1 j))

-- ---- unions

-- the member at q of the union at p
abbrev pub member : (Around → ℕ → ℕ → Out) → List ℕ → ℕ → ℕ → ℕ → Out
member schema namespace d p q = schema (around namespace (MemberOf p q)) (d + 1) q

module _ (schema : Around → ℕ → ℕ → Out) (t namespace : List ℕ) (standing : Standing) (d p : ℕ) {m m' : List ℕ} {c : Counts}
    {r : Check} (e : (ns : List ℕ) → r ≡ union_check t ns standing (unnamed Union)) where
  pub union_old : {f : Fault} → r ≡ Err f → Did m c m' (Err f) (union_rows schema t (around namespace standing) d p)
  unfolding union_rows
  union_old g = did_fault (union_check t namespace standing (unnamed Union)) _ (sym (e namespace) ∙ g)

  pub union_rows_lem : {m'' : List ℕ} {c'' : Counts} {r'' : Walked} {s : Option ℕ} → r ≡ Ok tt → (c'' ≡ counted c 0) × (m'' ≡ pushed m c (row_with Union d p [] 0 (noted 0)))
      → s ≡ first_element t p → Did m'' c'' m' r'' (each (member schema namespace d p) (elements_at t s)) → Did m c m' r'' (union_rows schema t (around namespace standing) d p)
  unfolding union_rows
  union_rows_lem {m''} {c''} {r''} g i j k =
      did_fine (union_check t namespace standing (unnamed Union)) _ (sym (e namespace) ∙ g)
      (did_after (row_with Union d p [] 0 (noted 0)) _ refl i.0 i.1
      (subst (λ (l : List ℕ). Did m'' c'' m' r'' (each (member schema namespace d p) l)) (left_start t p j) k))

-- ---- records

record_then : (schema : Around → ℕ → ℕ → Out) (t : List ℕ) (a : Around) (d p : ℕ) (o : Members)
    → record_rows schema t a d p o ≡ and_then (head_rows t a Record d p o 0 (noted 0))
    (on_spot (as_array t o.fields) (λ v. fields_rows (schema (within (namespace_part (name_of t a.namespace o)))) t (d + 1) (fields_in t v)) (no FieldsMissing p))
unfolding record_rows
record_then schema t a d p o =
    definition_then t a Record d p o 0 (noted 0) (λ own. on_spot (as_array t o.fields) (λ v. fields_rows (schema (within own)) t (d + 1) (fields_in t v)) (no FieldsMissing p))

module _ (schema : Around → ℕ → ℕ → Out) (t namespace : List ℕ) (standing : Standing) (d p : ℕ) (o : Members) {m m'' buffer : List ℕ} {c : Counts}
    {r : Result Defined Fault} (e : Titled m c m'' r buffer (name_of t namespace o) (head_rows t (around namespace standing) Record d p o 0 (noted 0))) where
  pub record_bad : {m' : List ℕ} {f : Fault} → r ≡ Err f → Did m c m' (Err f) (record_rows schema t (around namespace standing) d p o)
  record_bad g = did_eq (record_then schema t (around namespace standing) d p o) (did_stop _ _ (did_untitled _ e g) refl)

  module _ {n : ℕ} {c'' : Counts} (g : r ≡ defined_as n c'') {s : Option ℕ} (h : s ≡ as_array t o.fields) where
    pub record_none : s ≡ None → Did m c m'' (Err (fault FieldsMissing p)) (record_rows schema t (around namespace standing) d p o)
    record_none i =
        did_eq (record_then schema t (around namespace standing) d p o)
        (did_then _ _ (did_titled _ e g) refl (rw (← h, i) (did_bad m'' m'' c'' (fault FieldsMissing p))))

    pub record_fields : {m' : List ℕ} {v : ℕ} {own : List ℕ} {r'' : Walked} → s ≡ Some v → own ≡ namespace_part (take (n - 0) (drop 0 buffer))
        → Did m'' c'' m' r'' (fields_rows (schema (within own)) t (d + 1) (fields_in t v)) → Did m c m' r'' (record_rows schema t (around namespace standing) d p o)
    record_fields {m'} {v} {own} {r''} i j k =
        let w : own ≡ namespace_part (name_of t namespace o) = j ∙ ap namespace_part (titled_front _ e g).1 in
        did_eq (record_then schema t (around namespace standing) d p o)
        (did_then _ _ (did_titled _ e g) refl
        (rw (← h, i) (subst (λ (y : List ℕ). Did m'' c'' m' r'' (fields_rows (schema (within y)) t (d + 1) (fields_in t v))) w k)))

-- ---- fields

all_fields : (t : List ℕ) (array : ℕ) {s : Option ℕ} → s ≡ first_element t array → objects_among t (elements_at t s) ≡ fields_in t array
unfolding fields_in
all_fields t array e = ap (objects_among t) (left_start t array e)

module _ (schema : ℕ → ℕ → Out) (t : List ℕ) (d array : ℕ) {m m' : List ℕ} {c : Counts} {s : Option ℕ} (e : s ≡ first_element t array) where
  pub fields_bad : {f : Fault} → Did m c m' (Err f) (each (field_rows schema t d) (objects_among t (elements_at t s))) → Did m c m' (Err f) (fields_rows schema t d (fields_in t array))
  unfolding fields_rows
  fields_bad {f} g = did_stop _ _ (subst (λ (l : List ℕ). Did m c m' (Err f) (each (field_rows schema t d) l)) (all_fields t array e) g) refl

  pub fields_end : {c' : Counts} {r : Walked} → Did m c m' (Ok c') (each (field_rows schema t d) (objects_among t (elements_at t s)))
      → ((x : List ℕ) → Did x c' x r (after (field_names_check t [] (fields_in t array)) (read []))) → Did m c m' r (fields_rows schema t d (fields_in t array))
  unfolding fields_rows
  fields_end {c'} g h = did_then _ _ (subst (λ (l : List ℕ). Did m c m' (Ok c') (each (field_rows schema t d) l)) (all_fields t array e) g) refl (h m')

pub fields_done : (schema : ℕ → ℕ → Out) (t : List ℕ) (d : ℕ) {s : Option ℕ} → s ≡ None → each (field_rows schema t d) (objects_among t (elements_at t s)) ≡ read []
fields_done schema t d e = objects_done (field_rows schema t d) t e

pub fields_next : (schema : ℕ → ℕ → Out) (t : List ℕ) (d : ℕ) {s s' : Option ℕ} {p : ℕ} → s ≡ Some p → s' ≡ next_element t p
    → each (field_rows schema t d) (objects_among t (elements_at t s)) ≡ and_then (element_rows schema t d p) (each (field_rows schema t d) (objects_among t (elements_at t s')))
unfolding element_rows
fields_next schema t d e f = objects_next (field_rows schema t d) t e f

-- ---- one field

module _ (schema : ℕ → ℕ → Out) (t : List ℕ) (d f : ℕ) {b : Bool} (e : b ≡ is_object (shape_at t f)) where
  pub element_none : b ≡ false → element_rows schema t d f ≡ read []
  unfolding element_rows
  element_none g = rw (← e, g) refl

  pub element_field : b ≡ true → element_rows schema t d f ≡ field_rows schema t d f
  unfolding element_rows
  element_field g = rw (← e, g) refl

-- a check, rows, a part and a check before both
checked_then : (x y : Check) (rs : List Row) (o next : Out)
    → after x (rows_then rs (and_then o (after y next))) ≡ and_then (after x (rows_then rs (and_then o (after y (read []))))) next
checked_then x y rs o next =
    ap (λ (z : Out). after x (rows_then rs (and_then o z))) (ap (after y) (none_then next) ∙ after_then y (read []) next)
    ∙ ap (λ (z : Out). after x (rows_then rs z)) (part_then o (after y (read [])) next)
    ∙ ap (after x) (rows_then_lem rs (and_then o (after y (read []))) next)
    ∙ after_then x (rows_then rs (and_then o (after y (read [])))) next

field_then : (schema : ℕ → ℕ → Out) (t : List ℕ) (d f : ℕ) (o : Members) → o ≡ members_of t f
    → field_rows schema t d f ≡ and_then (field_head t d f o) (on_spot o.typed (schema (d + 1)) (no TypeMissing f))
unfolding field_rows field_head
field_then schema t d f o e = rw e (go (members_of t f) (as_text t (members_of t f).name))
  where
    go : (o : Members) (s : Option ℕ) → on_spot s
        (λ q. after (simple_check t q) (rows_then (field_row t d q o.default ∷ []) (and_then (each (field_alias_rows t (d + 1)) (aliases_in t o.aliases))
        (after (kept_check t o.default) (on_spot o.typed (schema (d + 1)) (no TypeMissing f))))))
        (no NameMissing f)
        ≡ and_then (on_spot s
        (λ q. after (simple_check t q) (rows_then (field_row t d q o.default ∷ []) (and_then (each (field_alias_rows t (d + 1)) (aliases_in t o.aliases))
        (after (kept_check t o.default) (read [])))))
        (no NameMissing f))
        (on_spot o.typed (schema (d + 1)) (no TypeMissing f))
    go o None = refl
    go o (Some q) =
        checked_then (simple_check t q) (kept_check t o.default) (field_row t d q o.default ∷ []) (each (field_alias_rows t (d + 1)) (aliases_in t o.aliases))
        (on_spot o.typed (schema (d + 1)) (no TypeMissing f))

module _ (schema : ℕ → ℕ → Out) (t : List ℕ) (d f : ℕ) {o : Members} (e : o ≡ members_of t f) {m m'' : List ℕ} {c : Counts} {r : Walked} (g : Did m c m'' r (field_head t d f o)) where
  pub field_stop : {m' : List ℕ} {x : Fault} → r ≡ Err x → Did m c m' (Err x) (field_rows schema t d f)
  field_stop h = did_eq (field_then schema t d f o e) (did_stop _ _ g h)

  pub field_untyped : {c'' : Counts} → r ≡ Ok c'' → o.typed ≡ None → Did m c m'' (Err (fault TypeMissing f)) (field_rows schema t d f)
  field_untyped {c''} h i = did_eq (field_then schema t d f o e) (did_then _ _ g h (rw i (did_bad m'' m'' c'' (fault TypeMissing f))))

  pub field_typed : {m' : List ℕ} {c'' : Counts} {q : ℕ} {r'' : Walked} → r ≡ Ok c'' → o.typed ≡ Some q → Did m'' c'' m' r'' (schema (d + 1) q) → Did m c m' r'' (field_rows schema t d f)
  field_typed h i j = did_eq (field_then schema t d f o e) (did_then _ _ g h (rw i j))

-- ---- the whole

-- a text that was scanned is not too long
pub scanned_short : (t : List ℕ) {r : Verdict} → r ≡ scanned t → r ≡ Ok tt → length t ≤ longest
unfolding scanned
scanned_short t e g = go (ltb longest (length t)) refl (sym e ∙ g)
  where
    go : (b : Bool) → ltb longest (length t) ≡ b → cond b (json.fault TextTooLong longest) (verdict t) ≡ Ok tt → length t ≤ longest
    go true f h = let z : ◌≡◌ {A = ℕ} 0 1 = cc in absurd (omega arith)
    go false f h = ltb-false longest (length t) f

module _ (t : List ℕ) {r : Verdict} (e : r ≡ scanned t) {m m' : List ℕ} {c : Counts} where
  pub declared_not : {f : Fault} → r ≡ Err f → Did m c m' (Err f) (declared t)
  unfolding declared
  declared_not {f} g = rw (← e, g) (did_bad m m' c f)

  pub declared_rows : r ≡ Ok tt → {w : Walked} → Did m c m' w (rows_of t) → Did m c m' w (declared t)
  unfolding declared
  declared_rows g k = rw (← e, g) k

pub rows_walked : (t : List ℕ) {m m' : List ℕ} {c n : Counts} {p : ℕ} {w : Walked} → p ≡ value_start t → n ≡ c
    → Did m n m' w (schema_of most_nested t (within []) 0 p) → Did m c m' w (rows_of t)
unfolding rows_of
rows_walked t {m} {m'} {c} {n} {p} {w} i j k =
    subst (λ (y : Counts). Did m y m' w (schema_of most_nested t (within []) 0 (value_start t))) j
    (subst (λ (y : ℕ). Did m n m' w (schema_of most_nested t (within []) 0 y)) i k)
