-- The rows that a declaration's text gives keep all rules of well-formedness but 23 to 26 and 47.
-- Assumes nothing.
use mathlib.Core.Path.{◌≡◌, refl, sym, ◌∙◌}
use mathlib.Core.Bool.{true, false}
use mathlib.Core.List.{List, []}
use Prim.Native.Nat.{ℕ, zero, suc, ◌<◌, ◌≤◌}
use native.Mathlib.Omega.{arith}
use lib.ListN.{length}
use Rattle.std.specs.Prelude.{Ok}
use Rattle.name.specs.Name.{is_empty, is_namespace}
use Rattle.json_scan.specs.Json.{longest, scanned}
use Rattle.json_scan.proofs.Laws.{not_too_long}
use Rattle.grammar.proofs.Theorems.{scanned_is_grammar}
use Rattle.row.specs.Rows.{Row}
use Rattle.row.specs.declared.kind.Kind.TheVariants.{Array, Map}
use Rattle.view.specs.Values.{value_start}
use Rattle.view.specs.Members.{members_of}
use Rattle.viewed.proofs.Scanned.{text_scanned}
use Rattle.form.specs.declared.forms.Form.{Form}
use Rattle.form.specs.declared.forms.Form.TheVariants as form
use Rattle.form.specs.Checks.{fault}
use Rattle.answer.specs.declared.refusal.Why.TheVariants.{ItemsMissing, ValuesMissing}
use Rattle.form.specs.Forms.{form_of, most_nested}
use Rattle.rules.specs.Unions.{head_of}
use Rattle.schema.specs.Out.{Out, read}
use Rattle.schema.specs.Schema.{Around, within, schema_by, schema_of, rows_of}
use Rattle.fuel.proofs.Deep.{Deep, deep_within, fields_open}
use Rattle.fuel.proofs.Forms.{Stands, form_stands, items_at, values_at, fields_at}
use Rattle.resolve.specs.Rules.{good_numbers, is_declaration}
use Rattle.kept.proofs.Lists.{All, all_map}
use Rattle.kept.proofs.Forest.{Written, declaration}
use Rattle.kept.proofs.Passed.{unread}
use Rattle.kept.proofs.Good.{KeptText, First, declaration_first, declaration_texts, declaration_numbers}
use Rattle.kept.proofs.Fits.{array_single, map_single}
use Rattle.kept.proofs.Schemas.{Schema, word_schema, part_schema}
use Rattle.kept.proofs.Records.{record_schema, enum_schema, fixed_schema}
use Rattle.kept.proofs.Members.{union_schema}

-- ---- any schema

module _ (t : List ℕ) (short : length t ≤ longest) where
  module _ (schema : Around → ℕ → ℕ → Out)
      (reads : (b : Around) → is_namespace b.namespace ≡ true → (e q : ℕ) → Deep t 0 q → (rs : List Row) → schema b e q ≡ read rs → Schema t b e (form_of t q) rs)
      (a : Around) (good : is_namespace a.namespace ≡ true) (d : ℕ) where
    schema_by_lem : (f : Form) → Stands t 0 f → {rs : List Row} → schema_by schema t a d f ≡ read rs → Schema t a d f rs
    unfolding schema_by head_of
    schema_by_lem (form.Word q o) h e = word_schema t short a good (form.Word q o) d q o refl e
    schema_by_lem (form.ArrayOf p) h e =
        part_schema t short a good (form.ArrayOf p) schema (form_of t) reads Array array_single d p (deep_within h.deep) refl (members_of t p).items (items_at t 0 p h) (fault ItemsMissing p) e
    schema_by_lem (form.MapOf p) h e =
        part_schema t short a good (form.MapOf p) schema (form_of t) reads Map map_single d p (deep_within h.deep) refl (members_of t p).values (values_at t 0 p h) (fault ValuesMissing p) e
    schema_by_lem (form.UnionOf p) h e = union_schema t a d p schema good reads short (form.UnionOf p) h refl e
    schema_by_lem (form.RecordOf p) h e =
        record_schema t short a good (form.RecordOf p) d p (members_of t p) refl schema (form_of t) reads (λ v i. fields_open t 1 v (fields_at t 0 p h v i)) e
    schema_by_lem (form.EnumOf p) h e = enum_schema t short a good (form.EnumOf p) d p (members_of t p) refl e
    schema_by_lem (form.FixedOf p) h e = fixed_schema t short a good (form.FixedOf p) d p (members_of t p) refl e
    schema_by_lem (form.Wrong f) h e = unread e

  -- a schema that was read, whatever surrounds it
  pub schema_kept : (n : ℕ) (a : Around) → is_namespace a.namespace ≡ true → (d p : ℕ) → Deep t 0 p → (rs : List Row) → schema_of n t a d p ≡ read rs → Schema t a d (form_of t p) rs
  unfolding schema_of
  schema_kept zero a good d p i rs e = unread e
  schema_kept (suc n) a good d p i rs e = schema_by_lem (schema_of n t) (schema_kept n) a good d (form_of t p) (form_stands t 0 most_nested p i) e

-- ---- the rows of a text

module _ (t : List ℕ) (rs : List Row) (s : scanned t ≡ Ok tt) (e : rows_of t ≡ read rs) where
  short : length t ≤ longest
  short = (scanned_is_grammar t s).0

  here : Deep t 0 (value_start t)
  here = record { stack = []; scanned = text_scanned t (sym (not_too_long t short) ∙ s); least = omega arith; most = omega arith }

  whole : Schema t (within []) 0 (form_of t (value_start t)) rs
  unfolding rows_of is_namespace is_empty
  whole = schema_kept t short most_nested (within []) refl 0 (value_start t) here rs e

  -- they keep the rules
  pub kept : is_declaration rs ≡ true
  kept = rw whole.is (declaration whole.root whole.kids whole.depth whole.kind whole.below.chain (rw whole.is at whole.rows.good))

  -- the first row is a schema at depth 0
  pub kept_first : First rs
  kept_first = declaration_first rs kept

  -- every kept name has 1 to 255 bytes
  pub kept_texts : All (λ r. KeptText r.kind r.text) rs
  kept_texts = declaration_texts rs kept

  -- numbers are as the notes and sizes say
  pub kept_numbers : All (λ r. good_numbers r ≡ true) rs
  kept_numbers = declaration_numbers rs kept

  -- every position lies within the text
  pub kept_positions : All (λ r. r.position < length t) rs
  kept_positions = all_map (λ r h. h.position) whole.rows.placed

  -- a default is written in the text, at the position that its row keeps
  pub kept_defaults : All (λ r. is_empty r.default ≡ false → Written t r) rs
  kept_defaults = all_map (λ r h. h.default) whole.rows.placed
