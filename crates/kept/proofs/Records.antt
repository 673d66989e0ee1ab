-- Records, enums and fixeds; 11, of the names of a record's fields.
-- Assumes nothing.
use Rattle.std.specs.Prelude.{Option, Some, Ok}
use mathlib.Core.Path.{◌≡◌, refl, sym, ap, ◌∙◌}
use mathlib.Core.Bool.{true, false, not}
use mathlib.Core.List.{List, [], ◌∷◌, ◌++◌, map, append-nil}
use Prim.Native.Nat.{ℕ, ◌+◌, ◌≤◌}
use native.Mathlib.Omega.{arith}
use lib.ListN.{length}
use borrow.Author.Tests.{not-true}
use Rattle.answer.specs.declared.refusal.Why.TheVariants.{FieldsMissing, FieldNameTaken, SymbolsMissing, SymbolNotAString}
use Rattle.name.specs.Name.{is_namespace, is_one_of}
use Rattle.json_scan.specs.Json.{longest}
use Rattle.row.specs.Rows.{Row}
use Rattle.row.specs.declared.kind.Kind.TheVariants.{Record, Enum, Fixed, Field}
use Rattle.view.specs.Values.{shape_at}
use Rattle.view.specs.Elements.{elements}
use Rattle.view.specs.Size.{size_of}
use Rattle.view.specs.Strings.{string_at}
use Rattle.view.specs.Members.{members_of}
use Rattle.view.specs.declared.members.Members.{Members}
use Rattle.view.proofs.Laws.{All as Each}
use Rattle.form.specs.declared.forms.Form.{Form}
use Rattle.form.specs.Checks.{fault, must, ◌then◌, each_of}
use Rattle.form.specs.Spots.{on_spot, is_text, as_text, as_array, aliases_in, fields_in}
use Rattle.form.specs.Names.{simple_check}
use Rattle.form.specs.declared.note.Plain.TheVariants as over
use Rattle.form.specs.Notes.{noted, note_of}
use Rattle.rules.specs.Fields.{field_name_at, field_name, taken_by, field_names_check}
use Rattle.rules.specs.Symbols.{symbols_new, symbols_check, default_check}
use Rattle.rules.specs.Unions.{definition_head, head_of}
use Rattle.schema.specs.Out.{Out, read, after, no as fail, each}
use Rattle.schema.specs.Schema.{Around, within, field_alias_rows, field_row, kept_check, field_rows, fields_rows, record_rows, symbol_rows, enum_rows, fixed_rows}
use Rattle.fuel.proofs.Deep.{Deep, Opens, deep_any}
use Rattle.fuel.proofs.Forms.{typed_deep}
use Rattle.resolve.specs.Kinds.{is_kind, is_part_of, parts_fit}
use Rattle.resolve.specs.Rules.{kinds_at, no_two, takes_name, same_symbol, clash}
use Rattle.kept.proofs.Lists.{All, nil, cons, all_append, all_map, all_any, kinds_append, Misses, Unmet, unmet_misses, two_nil, two_cons, two_front, two_never}
use Rattle.kept.proofs.Forest.{Rows, good_row_lem, rows_none, rows_append, rows_weaken, rows_tree, rows_tops}
use Rattle.kept.proofs.Passed.{must_true, then_fine, after_read, rows_read_lem, both_read, spot_read, read_same}
use Rattle.kept.proofs.Numbers.{size_small, note_good, plain_numbers, fixed_numbers}
use Rattle.kept.proofs.Texts.{Own, simple_own}
use Rattle.kept.proofs.Defaults.{Default, default_read, field_strings, field_numbers, field_placed}
use Rattle.kept.proofs.Fits.{field_fits_lem}
use Rattle.kept.proofs.Meets.{one_of_front, one_of_behind, one_of_head, one_of_tail, name_unmet, name_quiet, name_new, alias_quiet, alias_unmet, symbol_quiet, symbol_unmet}
use Rattle.kept.proofs.Leaves.{field_aliases_rows, field_aliases_texts, symbols_apart}
use Rattle.kept.proofs.Schemas.{any_rows, Schema, schema_kinds, record_defines, enum_defines, fixed_defines, Body, definition_schema}

-- ---- a field that was read: its row with its default, its aliases, its type

record FieldOf (t : List ℕ) (d f : ℕ) (rs : List Row) : Type 0 where
  place : ℕ
  named : field_name_at t f ≡ place
  own : Own t place
  default : Default t (members_of t f).default
  front : List Row
  aliases : each (field_alias_rows t (d + 1)) (aliases_in t (members_of t f).aliases) ≡ read front
  around : Around
  form : Form
  types : List Row
  typed : Schema t around (d + 1) form types
  is : rs ≡ field_row t d place (members_of t f).default ∷ (front ++ types)

-- ---- 11

record Fields (t : List ℕ) (d : ℕ) (taken : List (List ℕ)) (rs : List Row) : Type 0 where
  rows : Rows t (d + 1) (is_kind Field) rs
  missed : (a : Row) → is_one_of taken a.text ≡ true → Misses (takes_name d) a rs
  apart : no_two (takes_name d) rs ≡ true

module _ (t : List ℕ) (short : length t ≤ longest) where
  field_tree : {d f : ℕ} {rs : List Row} (h : FieldOf t d f rs)
      → Rows t d (is_kind Field) (field_row t d h.place (members_of t f).default ∷ (h.front ++ h.types))
  unfolding field_row is_kind clash
  field_tree {d = d} {f = f} h =
      let s = (members_of t f).default in
      let r = field_row t d h.place s in
      let w = h.own.within in
      let al = field_aliases_rows t short (d + 1) (aliases_in t (members_of t f).aliases) h.aliases in
      let kids = rows_append (any_rows al) (any_rows h.typed.rows) in
      let fits : parts_fit Field (kinds_at (d + 1) (h.front ++ h.types)) ≡ true =
      rw (kinds_append (d + 1) h.front h.types, schema_kinds h.typed) (field_fits_lem (kinds_at (d + 1) h.front) h.typed.root.kind al.tops h.typed.kind) in
      rows_tree r refl refl (field_placed t d h.place w s h.default)
      (good_row_lem r kids.chain (field_strings t d h.place s h.default h.own) (field_numbers t d h.place short w s h.default) fits (two_never (clash Field d) (λ a b. refl) (h.front ++ h.types)))
      kids

  -- a field in front of fields, and the names that were taken before it
  field_apart : (d f : ℕ) (taken : List (List ℕ)) {xs ys : List Row} → FieldOf t (d + 1) f xs → is_one_of taken (field_name t f) ≡ false → Fields t d (taken ++ taken_by t f) ys
      → Fields t d taken (xs ++ ys)
  unfolding taken_by field_row
  field_apart d f taken {ys = ys} h new rest =
      let q = h.place in
      let r = field_row t (d + 1) q (members_of t f).default in
      let named : field_name t f ≡ string_at t q = ap (string_at t) h.named in
      let qs = aliases_in t (members_of t f).aliases in
      let strings = map (string_at t) qs in
      let al = rows_tops (field_aliases_rows t short (d + 1 + 1) qs h.aliases) in
      let ty = rows_tops h.typed.rows in
      let unmet : All (Unmet (takes_name d)) (h.front ++ h.types) =
      all_append (all_map (λ b u. name_unmet d b (let l = u.deep in omega arith)) al) (all_map (λ b u. name_unmet d b (let l = u.deep in omega arith)) ty) in
      let miss : All (λ a. Misses (takes_name d) a ys) (h.front ++ h.types) =
      all_append
      (all_map (λ a u. rest.missed a (one_of_behind taken (field_name t f ∷ strings) a.text (one_of_tail (field_name t f) a.text strings u))) (field_aliases_texts t short (d + 1 + 1) qs h.aliases))
      (all_map (λ a u. all_any (name_quiet d a u) ys) ty) in
      let mine : is_one_of (taken ++ (field_name t f ∷ strings)) (string_at t q) ≡ true =
      one_of_behind taken (field_name t f ∷ strings) (string_at t q) (rw named (one_of_head (string_at t q) strings)) in
      rw h.is
      (record {
        rows = rows_append (field_tree h) rest.rows;
        missed = λ a u. cons (name_new d taken a r u (rw (sym named) new)) (all_append (unmet_misses (takes_name d) a unmet) (rest.missed a (one_of_front taken (field_name t f ∷ strings) a.text u)));
        apart = two_cons (takes_name d) r (all_append (unmet_misses (takes_name d) r unmet) (rest.missed r mine)) (two_front (takes_name d) unmet miss rest.apart);
      })

  module _ (schema : ℕ → ℕ → Out) (b : Around) (ff : ℕ → Form) (reads : (e q : ℕ) → Deep t 0 q → (rs : List Row) → schema e q ≡ read rs → Schema t b e (ff q) rs) where
    field_of : (d f : ℕ) {rs : List Row} → Opens t 2 123 f → field_rows schema t d f ≡ read rs → FieldOf t d f rs
    unfolding field_rows field_name_at
    field_of d f o e =
        let m = members_of t f in
        let s = spot_read (as_text t m.name) _ _ e in
        let q = s.place in
        let x = after_read (simple_check t q) _ s.reads in
        let y = rows_read_lem (field_row t d q m.default ∷ []) _ x.1 in
        let z = both_read (each (field_alias_rows t (d + 1)) (aliases_in t m.aliases)) _ y.reads in
        let k = after_read (kept_check t m.default) _ z.second in
        let v = spot_read m.typed (schema (d + 1)) _ k.1 in
        record {
          place = q;
          named = ap (λ (x : Option ℕ). on_spot x (λ v. v) f) s.at;
          own = simple_own t q x.0;
          default = default_read o k.0;
          front = z.front;
          aliases = z.first;
          around = b;
          form = ff v.place;
          types = z.behind;
          typed = reads (d + 1) v.place (deep_any (typed_deep t 2 f o v.place v.at)) z.behind v.reads;
          is = y.is ∙ ap (λ (l : List Row). field_row t d q m.default ∷ l) z.is;
        }

    fields_apart : (d : ℕ) (taken : List (List ℕ)) (fs : List ℕ) {rs : List Row} → Each (Opens t 2 123) fs → field_names_check t taken fs ≡ Ok tt → each (field_rows schema t (d + 1)) fs ≡ read rs → Fields t d taken rs
    unfolding field_names_check each
    fields_apart d taken [] o c e = rw (sym (read_same e)) (record { rows = rows_none; missed = λ a h. nil; apart = two_nil (takes_name d) })
    fields_apart d taken (f ∷ fs) o c e =
        let y = then_fine (must (not (is_one_of taken (field_name t f))) (fault FieldNameTaken (field_name_at t f))) (field_names_check t (taken ++ taken_by t f) fs) c in
        let z = both_read (field_rows schema t (d + 1) f) (each (field_rows schema t (d + 1)) fs) e in
        rw z.is
        (field_apart d f taken (field_of (d + 1) f o.0 z.first) (not-true (is_one_of taken (field_name t f)) (must_true (not (is_one_of taken (field_name t f))) _ y.0))
        (fields_apart d (taken ++ taken_by t f) fs o.1 y.1 z.second))

    fields_body : (d : ℕ) (fs : List ℕ) {rs : List Row} → Each (Opens t 2 123) fs → fields_rows schema t (d + 1) fs ≡ read rs → Body t Record d rs
    unfolding fields_rows is_part_of is_kind clash
    fields_body d fs o e =
        let z = both_read (each (field_rows schema t (d + 1)) fs) _ e in
        let x = after_read (field_names_check t [] fs) (read []) z.second in
        let h = fields_apart d [] fs o x.0 z.first in
        rw (z.is, sym (read_same x.1), append-nil z.front)
        (record {
          rows = rows_weaken (λ k u. u) h.rows;
          apart = λ xs al. two_front (takes_name d) (all_map (alias_unmet d) al) (all_map (λ a u. all_any (alias_quiet d a u) z.front) al) h.apart;
        })

  -- ---- definitions, by the object at p and its members m

  module _ (a : Around) (good : is_namespace a.namespace ≡ true) (f : Form) (d p : ℕ) (m : Members) (heads : head_of t a.namespace f ≡ definition_head t a.namespace m) where
    module _ (schema : Around → ℕ → ℕ → Out) (ff : ℕ → Form)
        (reads : (b : Around) → is_namespace b.namespace ≡ true → (e q : ℕ) → Deep t 0 q → (rs : List Row) → schema b e q ≡ read rs → Schema t b e (ff q) rs)
        (opened : (v : ℕ) → as_array t m.fields ≡ Some v → Each (Opens t 2 123) (fields_in t v)) where
      record_body : (own : List ℕ) → is_namespace own ≡ true → (ys : List Row)
          → on_spot (as_array t m.fields) (λ v. fields_rows (schema (within own)) t (d + 1) (fields_in t v)) (fail FieldsMissing p) ≡ read ys → Body t Record d ys
      record_body own ow ys e =
          let s = spot_read (as_array t m.fields) _ _ e in
          fields_body (schema (within own)) (within own) ff (reads (within own) ow) d (fields_in t s.place) (opened s.place s.at) s.reads

      pub record_schema : {rs : List Row} → record_rows schema t a d p m ≡ read rs → Schema t a d f rs
      unfolding record_rows
      record_schema e = definition_schema t short a good f Record record_defines d p m 0 (noted 0) _ (λ q s h. plain_numbers Record d q s h) record_body heads e

    enum_body : (own : List ℕ) → is_namespace own ≡ true → (ys : List Row)
        → on_spot (as_array t m.symbols)
        (λ v. after (symbols_check t (elements t v) then default_check t m.default (elements t v)) (each (symbol_rows t (d + 1)) (elements t v))) (fail SymbolsMissing p) ≡ read ys
        → Body t Enum d ys
    unfolding symbols_check is_part_of is_kind clash
    enum_body own ow ys e =
        let s = spot_read (as_array t m.symbols) _ _ e in
        let qs = elements t s.place in
        let x = after_read (symbols_check t qs then default_check t m.default qs) _ s.reads in
        let y = then_fine (symbols_check t qs) _ x.0 in
        let z = then_fine (each_of (λ q. must (is_text (shape_at t q)) (fault SymbolNotAString q)) qs) (symbols_new t [] qs) y.0 in
        let h = symbols_apart t short d [] qs z.1 x.1 in
        record {
          rows = rows_weaken (λ k u. u) h.rows;
          apart = λ xs al. two_front (same_symbol d) (all_map (symbol_unmet d) al) (all_map (λ b u. all_any (symbol_quiet d b u) ys) al) h.apart;
        }

    pub enum_schema : {rs : List Row} → enum_rows t a d p m ≡ read rs → Schema t a d f rs
    unfolding enum_rows
    enum_schema e = definition_schema t short a good f Enum enum_defines d p m 0 (noted 0) _ (λ q s h. plain_numbers Enum d q s h) enum_body heads e

    fixed_body : (own : List ℕ) → is_namespace own ≡ true → (ys : List Row) → read [] ≡ read ys → Body t Fixed d ys
    unfolding clash is_kind
    fixed_body own ow ys e = rw (sym (read_same e)) (record { rows = rows_none; apart = λ xs al. two_never (clash Fixed d) (λ b c. refl) (xs ++ []) })

    pub fixed_schema : {rs : List Row} → fixed_rows t a d p m ≡ read rs → Schema t a d f rs
    unfolding fixed_rows
    fixed_schema e =
        let s = spot_read m.size _ _ e in
        let v = spot_read (size_of t s.place) _ _ s.reads in
        let small = size_small t s.place v.place v.at in
        definition_schema t short a good f Fixed fixed_defines d p m v.place (note_of t m (over.Fixed v.place)) _
        (λ q x h. fixed_numbers d q x v.place (note_of t m (over.Fixed v.place)) h small (note_good t m (over.Fixed v.place))) fixed_body heads v.reads
