-- A schema that was read: one tree, whose first row is the schema's. Definitions, words, arrays and maps.
-- Assumes nothing.
use Rattle.std.specs.Prelude.{Option, Some, None, Ok}
use mathlib.Core.Path.{◌≡◌, refl, sym, ap, ◌∙◌}
use mathlib.Core.Bool.{Bool, true, false, cond, ◌||◌}
use mathlib.Core.List.{List, [], ◌∷◌, ◌++◌}
use Prim.Native.Nat.{ℕ, ◌+◌, ◌<◌, ◌≤◌}
use native.Mathlib.Omega.{arith}
use lib.Dec.{eqb}
use lib.ListN.{length}
use borrow.Author.Tests.{eq-eqb}
use Rattle.answer.specs.declared.refusal.Fault.{Fault}
use Rattle.name.specs.Name.{every, is_namespace, namespace_part}
use Rattle.json_scan.specs.Json.{longest}
use Rattle.row.specs.Kinds.{kind_number}
use Rattle.row.specs.Rows.{Row}
use Rattle.row.specs.declared.kind.Kind.{Kind}
use Rattle.row.specs.declared.kind.Kind.TheVariants.{Bytes, Reference, Record, Enum, Fixed, Alias}
use Rattle.view.specs.Strings.{string_at}
use Rattle.view.specs.Members.{members_of}
use Rattle.view.specs.declared.members.Members.{Members}
use Rattle.form.specs.declared.forms.Form.{Form}
use Rattle.form.specs.declared.note.Note.{Note}
use Rattle.form.specs.Spots.{on_spot, as_text, aliases_in}
use Rattle.form.specs.Names.{full_at, reference_check, defined_at, definition_check}
use Rattle.form.specs.Forms.{word_kind}
use Rattle.form.specs.declared.note.Plain.TheVariants as over
use Rattle.form.specs.Notes.{noted, note_of}
use Rattle.rules.specs.Unions.{unnamed, called, word_head, definition_head, head_of, union_check}
use Rattle.schema.specs.Out.{Out, refused, read, each}
use Rattle.schema.specs.Schema.{row_with, Around, within, alias_rows, reference_rows, primitive_rows, word_rows, definition_rows, definition, part_rows}
use Rattle.fuel.proofs.Deep.{Deep, deep_less}
use Rattle.resolve.specs.Kinds.{is_kind, is_primitive, is_definition, is_named, is_schema, is_alias_of, has_one, is_part_of, past, body_fits, parts_fit}
use Rattle.resolve.specs.Rules.{good_text, good_numbers, kinds_at, no_two, clash}
use Rattle.kept.proofs.Lists.{All, kinds_append, two_nil, two_never}
use Rattle.kept.proofs.Forest.{Rows, plain_strings, plain_placed, good_row_lem, rows_none, rows_append, rows_weaken, rows_tree, kinds_deep}
use Rattle.kept.proofs.Passed.{after_read, rows_read_lem, both_read, spot_read, read_same}
use Rattle.kept.proofs.Numbers.{Noted, noted_plain, note_good, numbers_good, plain_numbers}
use Rattle.kept.proofs.Texts.{reference_named, reference_text, definition_free, own_namespace, free_text, word_within}
use Rattle.resolve.proofs.KindLaws.{kind_is}
use Rattle.kept.proofs.Fits.{primitive_plain, unnamed_fixed, parts_fit_lem, definition_alias, Single}
use Rattle.kept.proofs.Meets.{row_head, head_named, head_unnamed}
use Rattle.kept.proofs.Leaves.{aliases_rows, aliases_kind}

-- any kind
pub any_kind : Kind → Bool
any_kind k = true

pub any_rows : {t : List ℕ} {e : ℕ} {test : Kind → Bool} {rs : List Row} → Rows t e test rs → Rows t e any_kind rs
unfolding any_kind
any_rows a = rows_weaken (λ k h. refl) a

-- a tree of depth d for the schema of form f: its first row passed 19 as the member that it is, and tells it from others as its form does
pub record Schema (t : List ℕ) (a : Around) (d : ℕ) (f : Form) (rs : List Row) : Type 0 where
  pub root : Row
  pub kids : List Row
  pub is : rs ≡ root ∷ kids
  pub depth : root.depth ≡ d
  pub kind : is_schema root.kind ≡ true
  pub rows : Rows t d is_schema rs
  pub below : Rows t (d + 1) any_kind kids
  pub new : union_check t a.namespace a.standing (row_head root) ≡ Ok tt
  pub head : row_head root ≡ head_of t a.namespace f

pub schema_kinds : {t : List ℕ} {a : Around} {d : ℕ} {f : Form} {rs : List Row} (s : Schema t a d f rs) → kinds_at d rs ≡ s.root.kind ∷ []
unfolding kinds_at
schema_kinds {d = d} s = rw (s.is, eq-eqb s.root.depth d s.depth, kinds_deep {d = d} (omega arith) s.below.chain)

-- by its first row and the rows under it
module _ (t : List ℕ) (a : Around) (f : Form) (k : Kind) (d p : ℕ) (s : List ℕ) (size : ℕ) (n : Note) where
  pub schema_tree : {kids : List Row} → is_schema k ≡ true → p < length t → good_text k s ≡ true → good_numbers (row_with k d p s size n) ≡ true
      → Rows t (d + 1) any_kind kids → parts_fit k (kinds_at (d + 1) kids) ≡ true → no_two (clash k d) kids ≡ true
      → union_check t a.namespace a.standing (row_head (row_with k d p s size n)) ≡ Ok tt → row_head (row_with k d p s size n) ≡ head_of t a.namespace f
      → Schema t a d f (row_with k d p s size n ∷ kids)
  schema_tree {kids = kids} sc w tx nu b fi ap ne he = record {
    root = row_with k d p s size n;
    kids = kids;
    is = refl;
    depth = refl;
    kind = sc;
    rows = rows_tree (row_with k d p s size n) refl sc (plain_placed (row_with k d p s size n) refl w) (good_row_lem (row_with k d p s size n) b.chain (plain_strings (row_with k d p s size n) refl tx) nu fi ap) b;
    below = b;
    new = ne;
    head = he;
  }

-- ---- definitions

pub record Defines (k : Kind) : Type 0 where
  pub definition : is_definition k ≡ true
  pub many : has_one k ≡ false
  pub schema : is_schema k ≡ true
  pub named : is_named k ≡ true

pub record_defines : Defines Record
unfolding is_schema is_primitive is_named is_definition has_one is_kind
record_defines = record { definition = refl; many = refl; schema = refl; named = refl }

pub enum_defines : Defines Enum
unfolding is_schema is_primitive is_named is_definition has_one is_kind
enum_defines = record { definition = refl; many = refl; schema = refl; named = refl }

pub fixed_defines : Defines Fixed
unfolding is_schema is_primitive is_named is_definition has_one is_kind
fixed_defines = record { definition = refl; many = refl; schema = refl; named = refl }

-- what stands behind a definition's aliases
pub record Body (t : List ℕ) (k : Kind) (d : ℕ) (ys : List Row) : Type 0 where
  pub rows : Rows t (d + 1) (is_part_of k) ys
  pub apart : (xs : List Row) → All (λ r. is_kind Alias r.kind ≡ true) xs → no_two (clash k d) (xs ++ ys) ≡ true

module _ (t : List ℕ) (short : length t ≤ longest) (a : Around) (good : is_namespace a.namespace ≡ true) where
  module _ (f : Form) (k : Kind) (de : Defines k) (d p : ℕ) (m : Members) (size : ℕ) (n : Note) (rest : List ℕ → Out)
      (numbers : (q : ℕ) (s : List ℕ) → q < longest → good_numbers (row_with k d q s size n) ≡ true)
      (body : (own : List ℕ) → is_namespace own ≡ true → (ys : List Row) → rest own ≡ read ys → Body t k d ys)
      (heads : head_of t a.namespace f ≡ definition_head t a.namespace m) where
    definition_at : (q : ℕ) {rs : List Row} → as_text t m.name ≡ Some q → definition_rows t a k d m q size n rest ≡ read rs → Schema t a d f rs
    unfolding definition_rows definition_head
    definition_at q at e =
        let full = defined_at t a.namespace m q in
        let own = namespace_part full in
        let x = after_read (definition_check t a.namespace m q) _ e in
        let y = after_read (union_check t a.namespace a.standing (called full)) _ x.1 in
        let z = rows_read_lem (row_with k d q full size n ∷ []) _ y.1 in
        let w = both_read (each (alias_rows t own (d + 1)) (aliases_in t m.aliases)) (rest own) z.reads in
        let fr = definition_free t a.namespace m q good x.0 in
        let wi = fr.named.within in
        let ow = own_namespace fr.named in
        let al = aliases_rows t short own ow (d + 1) (aliases_in t m.aliases) w.first in
        let ak = aliases_kind t short own ow (d + 1) (aliases_in t m.aliases) w.first in
        let bo = body own ow w.behind w.second in
        let he = head_named (row_with k d q full size n) de.named in
        let ha : definition_head t a.namespace m ≡ called full = rw at in
        let de_text : is_definition k || is_kind Alias k ≡ true = rw de.definition in
        rw (z.is, w.is)
        (schema_tree t a f k d q full size n de.schema wi (free_text k de_text fr) (numbers q full (omega arith))
        (rows_append (any_rows al) (any_rows bo.rows))
        (rw (kinds_append (d + 1) w.front w.behind)
        (parts_fit_lem k de.many (kinds_at (d + 1) w.front) (kinds_at (d + 1) w.behind) (definition_alias k de.definition (kinds_at (d + 1) w.front) al.tops) bo.rows.tops))
        (bo.apart w.front ak)
        (rw he y.0)
        (he ∙ sym (heads ∙ ha)))

    pub definition_schema : {rs : List Row} → definition t a k d p m size n rest ≡ read rs → Schema t a d f rs
    unfolding definition
    definition_schema e = let s = spot_read (as_text t m.name) _ _ e in definition_at s.place s.at s.reads

  -- ---- primitives and references

  module _ (f : Form) (d q : ℕ) (o : Option ℕ) (heads : head_of t a.namespace f ≡ word_head t a.namespace q (word_kind (string_at t q))) where
    reference_schema : word_kind (string_at t q) ≡ Reference → {rs : List Row} → reference_rows t a d q ≡ read rs → Schema t a d f rs
    unfolding reference_rows is_schema is_primitive is_named is_definition is_kind parts_fit body_fits past every has_one is_alias_of is_part_of kinds_at
    reference_schema k e =
        let full = full_at t a.namespace q in
        let x = after_read (reference_check t a.namespace q) _ e in
        let y = after_read (union_check t a.namespace a.standing (called full)) _ x.1 in
        let na = reference_named t a.namespace q good x.0 in
        let wi = na.within in
        let he = head_named (row_with Reference d q full 0 (noted 0)) refl in
        let ha : word_head t a.namespace q (word_kind (string_at t q)) ≡ called full = rw k in
        rw (sym (read_same y.1))
        (schema_tree t a f Reference d q full 0 (noted 0) refl wi (reference_text na) (plain_numbers Reference d q full (omega arith)) rows_none refl (two_nil (clash Reference d))
        (rw he y.0)
        (he ∙ sym (heads ∙ ha)))

    primitive_note : (k : Kind) → Noted over.Bytes (cond (eqb (kind_number k) (kind_number Bytes)) (on_spot o (λ p. note_of t (members_of t p) over.Bytes) (noted 0)) (noted 0))
    primitive_note k = go (eqb (kind_number k) (kind_number Bytes)) o
      where
        go : (b : Bool) (s : Option ℕ) → Noted over.Bytes (cond b (on_spot s (λ p. note_of t (members_of t p) over.Bytes) (noted 0)) (noted 0))
        go true (Some p) = note_good t (members_of t p) over.Bytes
        go true None = noted_plain over.Bytes 0 (omega arith) (λ (z : 0 ≡ 1). omega arith)
        go false s = noted_plain over.Bytes 0 (omega arith) (λ (z : 0 ≡ 1). omega arith)

    primitive_schema : is_kind Reference (word_kind (string_at t q)) ≡ false → {rs : List Row} → primitive_rows t a d (word_kind (string_at t q)) q o ≡ read rs → Schema t a d f rs
    unfolding primitive_rows is_kind kinds_at
    primitive_schema r e =
        let k = word_kind (string_at t q) in
        let n = cond (eqb (kind_number k) (kind_number Bytes)) (on_spot o (λ p. note_of t (members_of t p) over.Bytes) (noted 0)) (noted 0) in
        let y = after_read (union_check t a.namespace a.standing (unnamed k)) _ e in
        let pl = primitive_plain (string_at t q) r in
        let wi = word_within t q r in
        let he = head_unnamed (row_with k d q [] 0 n) pl.unnamed in
        let ha : word_head t a.namespace q k ≡ unnamed k = rw r in
        rw (sym (read_same y.1))
        (schema_tree t a f k d q [] 0 n pl.schema wi pl.text (numbers_good k d q [] n (omega arith) (primitive_note k) (unnamed_fixed k pl.unnamed) (λ h. rw h)) rows_none pl.parts (two_nil (clash k d))
        (rw he y.0)
        (he ∙ sym (heads ∙ ha)))

    pub word_schema : {rs : List Row} → word_rows t a d (word_kind (string_at t q)) q o ≡ read rs → Schema t a d f rs
    unfolding word_rows is_kind
    word_schema {rs} e = go (eqb (kind_number (word_kind (string_at t q))) (kind_number Reference)) refl e
      where
        go : (b : Bool) → eqb (kind_number (word_kind (string_at t q))) (kind_number Reference) ≡ b
            → cond b (reference_rows t a d q) (primitive_rows t a d (word_kind (string_at t q)) q o) ≡ read rs → Schema t a d f rs
        go true h g = reference_schema (kind_is Reference (word_kind (string_at t q)) h) g
        go false h g = primitive_schema h g

  -- ---- arrays and maps, whose part `schema` reads

  module _ (f : Form) (schema : Around → ℕ → ℕ → Out) (ff : ℕ → Form)
      (reads : (b : Around) → is_namespace b.namespace ≡ true → (e q : ℕ) → Deep t 0 q → (rs : List Row) → schema b e q ≡ read rs → Schema t b e (ff q) rs)
      (k : Kind) (single : Single k) (d p : ℕ) (w : p < length t) (heads : head_of t a.namespace f ≡ unnamed k) where
    pub part_schema : (part : Option ℕ) → ((q : ℕ) → part ≡ Some q → Deep t 1 q) → (x : Fault) {rs : List Row} → part_rows schema t a k d p part (refused x) ≡ read rs → Schema t a d f rs
    unfolding part_rows
    part_schema part i x e =
        let y = after_read (union_check t a.namespace a.standing (unnamed k)) _ e in
        let s = spot_read part _ x y.1 in
        let z = rows_read_lem (row_with k d p [] 0 (noted 0) ∷ []) _ s.reads in
        let c = reads (within a.namespace) good (d + 1) s.place (deep_less (i s.place s.at)) z.more z.reads in
        let he = head_unnamed (row_with k d p [] 0 (noted 0)) single.unnamed in
        rw z.is
        (schema_tree t a f k d p [] 0 (noted 0) single.schema w single.text (plain_numbers k d p [] (omega arith)) (any_rows c.rows)
        (rw (schema_kinds c) (single.parts c.root.kind c.kind))
        (two_never (clash k d) (single.apart d) z.more)
        (rw he y.0)
        (he ∙ sym heads))
