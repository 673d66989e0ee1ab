-- Names, words and fields: one law for each way out of the code.
-- Assumes nothing.
use Rattle.std.specs.Prelude.{Option, Some, None, Ok, Err, Result}
use mathlib.Core.Path.{◌≡◌, refl, sym, ap, ◌∙◌, subst}
use mathlib.Core.Bool.{true, false, cond}
use mathlib.Core.List.{List, [], ◌∷◌}
use Prim.Native.Nat.{ℕ, ◌+◌, ◌-◌, ◌<◌, ◌≤◌}
use native.Mathlib.Omega.{arith}
use lib.Dec.{eqb}
use lib.ListN.{length, take, drop}
use borrow.Author.Tests.{le-leb, lt-leb}
use Rattle.answer.specs.declared.counts.Counts.{Counts}
use Rattle.answer.specs.declared.refusal.Fault.{Fault}
use Rattle.answer.specs.declared.refusal.Why.TheVariants.{NameMissing, DefaultTooLong}
use Rattle.ground.specs.Bytes.{part}
use Rattle.ground.proofs.Laws.{length_part}
use Rattle.name.specs.Full.{kept_limit, is_short}
use Rattle.row.specs.Rows.{Row, row_of, with_default, strings_of}
use Rattle.row.specs.Kinds.{kind_number}
use Rattle.row.specs.Memory.{counted, pushed}
use Rattle.row.specs.declared.Entry.{Entry}
use Rattle.row.specs.declared.kind.Kind.{Kind}
use Rattle.row.specs.declared.kind.Kind.TheVariants.{Bytes, Reference, Field, Symbol, Alias, FieldAlias}
use Rattle.view.specs.declared.members.Members.{Members}
use Rattle.view.specs.Ends.{end_of}
use Rattle.view.specs.Elements.{elements_at}
use Rattle.view.specs.Members.{default_key, members_of}
use Rattle.view.specs.Strings.{string_at}
use Rattle.view.proofs.Laws.{end_ahead, end_within, member_inside}
use Rattle.form.specs.declared.note.Note.{Note}
use Rattle.rules.specs.declared.standing.Standing.{Standing}
use Rattle.form.specs.Checks.{fault, Check}
use Rattle.form.specs.Spots.{as_text, aliases_in, fields_in}
use Rattle.form.specs.Names.{simple_check, full_at, reference_check, alias_check, named}
use Rattle.form.specs.Forms.{word_kind}
use Rattle.form.specs.declared.note.Plain.TheVariants as over
use Rattle.form.specs.Notes.{noted, note_of}
use Rattle.rules.specs.Fields.{field_names_check}
use Rattle.rules.specs.Unions.{called, unnamed, union_check}
use Rattle.form.proofs.Laws.{named_wrong}
use Rattle.schema.specs.Out.{Out, read, after, each, Walked}
use Rattle.schema.specs.Schema.{row, row_with, alias_rows, field_alias_rows, written_at, field_row, kept_check, symbol_rows, reference_rows}
use Rattle.schema.specs.Did.{Did, InText, entry, around, primitive_with, word_with, field_head}
use Rattle.schema.proofs.Did.{own_string, did_bad, did_none, did_row, did_pushed, did_stop, did_then, did_fault, did_fine}

-- a row whose string is known by an equation
pub did_put : {m m' : List ℕ} {c c' : Counts} (kind : Kind) (d q : ℕ) {s x : List ℕ} → s ≡ x → c' ≡ counted c (length s) → m' ≡ pushed m c (row_with kind d q s 0 (noted 0))
    → Did m c m' (Ok c') (read (row kind d q x))
did_put {m} {m'} {c} {c'} kind d q {s} e g h = subst (λ (y : List ℕ). Did m c m' (Ok c') (read (row kind d q y))) e (did_row (row_with kind d q s 0 (noted 0)) refl g h)

pub put_row : (m : List ℕ) {m' : List ℕ} (c : Counts) (kind : Kind) (d q : ℕ) (s : List ℕ) (size : ℕ) (n : Note) {e : Entry} → e ≡ entry kind d q size n → m' ≡ pushed m c (row_of e s)
    → m' ≡ pushed m c (row_with kind d q s size n)
put_row m c kind d q s size n e h = h ∙ ap (λ (x : Entry). pushed m c (row_of x s)) e

-- a row with both strings was counted and pushed
abbrev pub Pushes : List ℕ → Counts → List ℕ → Counts → Row → Type 0
Pushes m c m' c' w = (c' ≡ counted c (length (strings_of w))) × (m' ≡ pushed m c w)

-- its own string was copied, or stood in the text
pub put_both : (m : List ℕ) {m' : List ℕ} (c : Counts) {c' : Counts} (e : Entry) (default : List ℕ) {s x : List ℕ} → s ≡ x → Pushes m c m' c' (with_default e s default)
    → Pushes m c m' c' (with_default e x default)
put_both m {m'} c {c'} e default g h = subst (λ (y : List ℕ). Pushes m c m' c' (with_default e y default)) g h

-- it has no default
pub put_string : (m : List ℕ) {m' : List ℕ} (c : Counts) {c' : Counts} (kind : Kind) (d q : ℕ) (s : List ℕ) {e : Entry} → e ≡ entry kind d q 0 (noted 0)
    → Pushes m c m' c' (with_default e s []) → (c' ≡ counted c (length s)) × (m' ≡ pushed m c (row_with kind d q s 0 (noted 0)))
put_string m {m'} c {c'} kind d q s g h =
    let k = subst (λ (y : Entry). Pushes m c m' c' (with_default y s [])) g h in
    (k.0 ∙ ap (counted c) (sym (own_string (row_with kind d q s 0 (noted 0)) refl)), k.1)

-- ---- aliases

module _ (t namespace : List ℕ) (d q : ℕ) {m m' : List ℕ} {c : Counts} where
  pub alias_wrong : {r : Result ℕ Fault} {f : Fault} → r ≡ named (alias_check t namespace q) (full_at t namespace q) → r ≡ Err f → Did m c m' (Err f) (alias_rows t namespace d q)
  unfolding alias_rows
  alias_wrong e g = did_fault (alias_check t namespace q) _ (named_wrong _ _ (sym g ∙ e))

  pub alias_kept : {c' : Counts} {s : List ℕ} → alias_check t namespace q ≡ Ok tt → s ≡ full_at t namespace q → c' ≡ counted c (length s) → m' ≡ pushed m c (row_with Alias d q s 0 (noted 0))
      → Did m c m' (Ok c') (alias_rows t namespace d q)
  unfolding alias_rows
  alias_kept e f g h = did_fine (alias_check t namespace q) _ e (did_put Alias d q f g h)

module _ (t : List ℕ) (d q : ℕ) {m m' : List ℕ} {c : Counts} where
  pub field_alias_bad : {r : Check} {f : Fault} → r ≡ simple_check t q → r ≡ Err f → Did m c m' (Err f) (field_alias_rows t d q)
  unfolding field_alias_rows
  field_alias_bad e g = did_fault (simple_check t q) _ (sym e ∙ g)

  pub field_alias_fine : {r : Check} {c' : Counts} → r ≡ simple_check t q → r ≡ Ok tt → (c' ≡ counted c (length (string_at t q))) × (m' ≡ pushed m c (row_with FieldAlias d q (string_at t q) 0 (noted 0)))
      → Did m c m' (Ok c') (field_alias_rows t d q)
  unfolding field_alias_rows
  field_alias_fine e g h = did_fine (simple_check t q) _ (sym e ∙ g) (did_put FieldAlias d q refl h.0 h.1)

  pub symbol_put : {c' : Counts} → (c' ≡ counted c (length (string_at t q))) × (m' ≡ pushed m c (row_with Symbol d q (string_at t q) 0 (noted 0))) → Did m c m' (Ok c') (symbol_rows t d q)
  unfolding symbol_rows
  symbol_put h = did_put Symbol d q refl h.0 h.1

-- ---- references

new : (t namespace : List ℕ) (standing : Standing) (q : ℕ) {s : List ℕ} → s ≡ full_at t namespace q → {r : Check} → r ≡ union_check t namespace standing (called s)
    → r ≡ union_check t namespace standing (called (full_at t namespace q))
new t namespace standing q f e = e ∙ ap (λ (x : List ℕ). union_check t namespace standing (called x)) f

module _ (t namespace : List ℕ) (standing : Standing) (d q : ℕ) {m m' : List ℕ} {c : Counts} where
  pub reference_wrong : {r : Result ℕ Fault} {f : Fault} → r ≡ named (reference_check t namespace q) (full_at t namespace q) → r ≡ Err f
      → Did m c m' (Err f) (reference_rows t (around namespace standing) d q)
  unfolding reference_rows
  reference_wrong e g = did_fault (reference_check t namespace q) _ (named_wrong _ _ (sym g ∙ e))

  module _ (p : reference_check t namespace q ≡ Ok tt) {s : List ℕ} (f : s ≡ full_at t namespace q) {r : Check} (e : r ≡ union_check t namespace standing (called s)) where
    pub reference_old : {x : Fault} → r ≡ Err x → Did m c m' (Err x) (reference_rows t (around namespace standing) d q)
    unfolding reference_rows
    reference_old g = did_fine (reference_check t namespace q) _ p (did_fault (union_check t namespace standing (called (full_at t namespace q))) _ (sym (new t namespace standing q f e) ∙ g))

    pub reference_new : {c' : Counts} → r ≡ Ok tt → c' ≡ counted c (length s) → m' ≡ pushed m c (row_with Reference d q s 0 (noted 0))
        → Did m c m' (Ok c') (reference_rows t (around namespace standing) d q)
    unfolding reference_rows
    reference_new g h i =
        did_fine (reference_check t namespace q) _ p
        (did_fine (union_check t namespace standing (called (full_at t namespace q))) _ (sym (new t namespace standing q f e) ∙ g) (did_put Reference d q f h i))

-- ---- primitives

module _ (t namespace : List ℕ) (standing : Standing) (d : ℕ) (kind : Kind) (q : ℕ) (o : Members) {m m' : List ℕ} {c : Counts}
    {r : Check} (e : (ns : List ℕ) → r ≡ union_check t ns standing (unnamed kind)) where
  pub primitive_old : {f : Fault} → r ≡ Err f → Did m c m' (Err f) (primitive_with t (around namespace standing) d kind q o)
  unfolding primitive_with
  primitive_old g = did_fault (union_check t namespace standing (unnamed kind)) _ (sym (e namespace) ∙ g)

  pub primitive_new : {c' : Counts} {n : Note} → r ≡ Ok tt → n ≡ cond (eqb (kind_number kind) (kind_number Bytes)) (note_of t o over.Bytes) (noted 0)
      → c' ≡ counted c 0 → m' ≡ pushed m c (row_with kind d q [] 0 n) → Did m c m' (Ok c') (primitive_with t (around namespace standing) d kind q o)
  unfolding primitive_with
  primitive_new {c'} {n} g f h i =
      did_fine (union_check t namespace standing (unnamed kind)) _ (sym (e namespace) ∙ g)
      (subst (λ (x : Note). Did m c m' (Ok c') (read (row_with kind d q [] 0 x ∷ []))) f (did_row (row_with kind d q [] 0 n) refl h i))

-- ---- words

module _ (t : List ℕ) (q : ℕ) {kind : Kind} (k : kind ≡ word_kind (string_at t q)) where
  pub word_other : eqb (kind_number kind) (kind_number Reference) ≡ false → eqb (kind_number (word_kind (string_at t q))) (kind_number Reference) ≡ false
  word_other e = rw (← k) e

  module _ (namespace : List ℕ) (standing : Standing) (d : ℕ) (o : Members) where
    pub word_reference : eqb (kind_number kind) (kind_number Reference) ≡ true
        → word_with t (around namespace standing) d q o ≡ reference_rows t (around namespace standing) d q
    unfolding word_with
    word_reference e = rw (← k, e) refl

    pub word_primitive : eqb (kind_number kind) (kind_number Reference) ≡ false
        → word_with t (around namespace standing) d q o ≡ primitive_with t (around namespace standing) d kind q o
    unfolding word_with
    word_primitive e = rw (word_other e, k) refl

-- ---- fields

module _ (t : List ℕ) (d q : ℕ) {default : Option ℕ} (m : List ℕ) {m' : List ℕ} (c : Counts) {c' : Counts} where
  pub field_plain : default ≡ None → (c' ≡ counted c (length (string_at t q))) × (m' ≡ pushed m c (row_with Field d q (string_at t q) 0 (noted 0))) → Pushes m c m' c' (field_row t d q default)
  unfolding field_row
  field_plain e h = rw e (h.0 ∙ ap (counted c) (own_string (row_with Field d q (string_at t q) 0 (noted 0)) refl), h.1)

  pub field_with : {v stop : ℕ} {x : Entry} → default ≡ Some v → x ≡ entry Field d q v (noted 0) → stop ≡ end_of t v
      → Pushes m c m' c' (with_default x (string_at t q) (take (stop - v) (drop v t))) → Pushes m c m' c' (field_row t d q default)
  unfolding field_row written_at part
  field_with {v} {stop} {x} e f g h =
      rw e (subst (λ (y : ℕ). Pushes m c m' c' (with_default (entry Field d q v (noted 0)) (string_at t q) (take (y - v) (drop v t)))) g
      (subst (λ (y : Entry). Pushes m c m' c' (with_default y (string_at t q) (take (stop - v) (drop v t)))) f h))

-- a member's value stands within the text
pub default_in : (t : List ℕ) (p : ℕ) {o : Members} → o ≡ members_of t p → InText t o.default
unfolding members_of
default_in t p e = rw e (record { within = λ v f. (member_inside t p default_key v f).within })

module _ (t : List ℕ) {default : Option ℕ} where
  pub kept_none : default ≡ None → Ok tt ≡ kept_check t default
  unfolding kept_check
  kept_none e = rw e refl

  module _ {v stop : ℕ} (e : default ≡ Some v) (i : InText t default) (f : stop ≡ end_of t v) where
    pub spans : (v ≤ stop) × (stop ≤ length t)
    spans = let a = i.within v e in let b = end_ahead t v in let k = end_within t v (omega arith) in (omega arith, omega arith)

    long_is : length (written_at t v) ≡ stop - v
    unfolding written_at
    long_is = let a = spans.0 in let b = spans.1 in length_part t v (end_of t v - v) (omega arith) ∙ ap (λ (y : ℕ). y - v) (sym f)

    pub kept_long : kept_limit < stop - v → Err (fault DefaultTooLong v) ≡ kept_check t default
    unfolding kept_check is_short
    kept_long l = rw (e, long_is, lt-leb (stop - v) kept_limit l) refl

    pub kept_short : stop - v ≤ kept_limit → Ok tt ≡ kept_check t default
    unfolding kept_check is_short
    kept_short l = rw (e, long_is, le-leb (stop - v) kept_limit l) refl

-- the same places
each_at : (reads : ℕ → Out) {ps qs : List ℕ} → ps ≡ qs → {m m' : List ℕ} {c : Counts} {r : Walked} → Did m c m' r (each reads ps) → Did m c m' r (each reads qs)
each_at reads k {m} {m'} {c} {r} l = subst (λ (x : List ℕ). Did m c m' r (each reads x)) k l

module _ (t : List ℕ) (d at : ℕ) (o : Members) {m : List ℕ} {c : Counts} {s : Option ℕ} (e : s ≡ as_text t o.name) where
  pub field_none : {m' : List ℕ} → s ≡ None → Did m c m' (Err (fault NameMissing at)) (field_head t d at o)
  unfolding field_head
  field_none {m'} g = rw (← e, g) (did_bad m m' c (fault NameMissing at))

  module _ {q : ℕ} (g : s ≡ Some q) {r : Check} (h : r ≡ simple_check t q) where
    pub field_bad : {m' : List ℕ} {f : Fault} → r ≡ Err f → Did m c m' (Err f) (field_head t d at o)
    unfolding field_head
    field_bad i = rw (← e, g) (did_fault (simple_check t q) _ (sym h ∙ i))

    -- the row was pushed, and the aliases were read
    module _ (i : r ≡ Ok tt) {m₁ m₂ : List ℕ} {c₁ : Counts} {w : Walked} (s₁ : Option ℕ) (j : Pushes m c m₁ c₁ (field_row t d q o.default))
        (k : elements_at t s₁ ≡ aliases_in t o.aliases) (l : Did m₁ c₁ m₂ w (each (field_alias_rows t (d + 1)) (elements_at t s₁))) where
      pub field_stopped : {m' : List ℕ} {f : Fault} → w ≡ Err f → Did m c m' (Err f) (field_head t d at o)
      unfolding field_head
      field_stopped n =
          rw (← e, g) (did_fine (simple_check t q) _ (sym h ∙ i) (did_pushed (field_row t d q o.default) _ j.0 j.1 (did_stop _ _ (each_at (field_alias_rows t (d + 1)) k l) n)))

      module _ {c₂ : Counts} (n : w ≡ Ok c₂) {x : Check} (u : x ≡ kept_check t o.default) where
        pub field_long : {m' : List ℕ} {f : Fault} → x ≡ Err f → Did m c m' (Err f) (field_head t d at o)
        unfolding field_head
        field_long v =
            rw (← e, g) (did_fine (simple_check t q) _ (sym h ∙ i) (did_pushed (field_row t d q o.default) _ j.0 j.1
            (did_then _ _ (each_at (field_alias_rows t (d + 1)) k l) n (did_fault (kept_check t o.default) _ (sym u ∙ v)))))

        pub field_kept : x ≡ Ok tt → Did m c m₂ (Ok c₂) (field_head t d at o)
        unfolding field_head
        field_kept v =
            rw (← e, g) (did_fine (simple_check t q) _ (sym h ∙ i) (did_pushed (field_row t d q o.default) _ j.0 j.1
            (did_then _ _ (each_at (field_alias_rows t (d + 1)) k l) n (did_fine (kept_check t o.default) _ (sym u ∙ v) (did_none m₂ c₂)))))

module _ (t : List ℕ) (array : ℕ) {r : Check} (e : r ≡ field_names_check t [] (fields_in t array)) (c : Counts) where
  pub apart_bad : {f : Fault} → r ≡ Err f → (m : List ℕ) → Did m c m (Err f) (after (field_names_check t [] (fields_in t array)) (read []))
  apart_bad g m = did_fault (field_names_check t [] (fields_in t array)) _ (sym e ∙ g)

  pub apart_fine : r ≡ Ok tt → (m : List ℕ) → Did m c m (Ok c) (after (field_names_check t [] (fields_in t array)) (read []))
  apart_fine g m = did_fine (field_names_check t [] (fields_in t array)) _ (sym e ∙ g) (did_none m c)
