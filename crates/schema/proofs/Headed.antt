-- Definitions, enums and fixeds: one law for each way out of the code.
-- Assumes nothing.
use Rattle.std.specs.Prelude.{Option, Some, None, Ok, Err, Result}
use mathlib.Core.Path.{◌≡◌, refl, sym, ap, ◌∙◌, subst}
use mathlib.Core.List.{List, [], ◌∷◌}
use Prim.Native.Nat.{ℕ, ◌+◌, ◌-◌, ◌≤◌}
use lib.ListN.{length, take, drop}
use Rattle.answer.specs.declared.counts.Counts.{Counts}
use Rattle.answer.specs.declared.refusal.Fault.{Fault}
use Rattle.answer.specs.declared.refusal.Why.TheVariants.{NameMissing, SymbolsMissing, SizeMissing, NotASize}
use Rattle.name.specs.Name.{namespace_part}
use Rattle.row.specs.Rows.{row_of}
use Rattle.row.specs.Memory.{counted, pushed}
use Rattle.row.specs.declared.Entry.{Entry}
use Rattle.row.specs.declared.kind.Kind.{Kind}
use Rattle.row.specs.declared.kind.Kind.TheVariants.{Enum, Fixed}
use Rattle.view.specs.declared.members.Members.{Members}
use Rattle.view.specs.Elements.{elements, elements_at}
use Rattle.view.specs.Size.{size_of}
use Rattle.form.specs.declared.note.Note.{Note}
use Rattle.rules.specs.declared.standing.Standing.{Standing}
use Rattle.form.specs.Checks.{fault, ◌then◌, Check}
use Rattle.form.specs.Spots.{on_spot, as_text, as_array, aliases_in}
use Rattle.form.specs.Names.{defined_at, definition_check}
use Rattle.form.specs.declared.note.Plain.TheVariants as over
use Rattle.form.specs.Notes.{noted, note_of}
use Rattle.rules.specs.Symbols.{symbols_check, default_check}
use Rattle.rules.specs.Unions.{called, union_check, name_of}
use Rattle.schema.specs.declared.walked.Defined.{Defined}
use Rattle.schema.specs.Out.{Out, read, rows_then, and_then, after, no, each, Walked}
use Rattle.schema.specs.Schema.{Around, alias_rows, symbol_rows, definition_rows, definition, enum_rows, fixed_rows}
use Rattle.schema.specs.Did.{Did, Titled, entry, around, headed, head_rows, symbols_rows, defined_as}
use Rattle.schema.proofs.Did.{did_bad, did_eq, did_after, did_fault, did_fine, did_end, did_titled, did_untitled, titled_as, titled_bad, rows_then_lem, after_then}

-- ---- the row and the aliases

module _ (t namespace : List ℕ) (standing : Standing) (e : Entry) (full : List ℕ) (aliases : Option ℕ) {m m' : List ℕ} {c : Counts}
    {r : Check} (g : r ≡ union_check t namespace standing (called full)) where
  pub headed_old : {f : Fault} → r ≡ Err f → Did m c m' (Err f) (headed t (around namespace standing) e full aliases)
  unfolding headed
  headed_old h = did_fault (union_check t namespace standing (called full)) _ (sym g ∙ h)

  pub headed_new : {m'' own : List ℕ} {c'' : Counts} {r'' : Walked} (s : Option ℕ) → r ≡ Ok tt → (c'' ≡ counted c (length full)) × (m'' ≡ pushed m c (row_of e full))
      → elements_at t s ≡ aliases_in t aliases → own ≡ namespace_part full → Did m'' c'' m' r'' (each (alias_rows t own (e.depth + 1)) (elements_at t s))
      → Did m c m' r'' (headed t (around namespace standing) e full aliases)
  unfolding headed
  headed_new {m''} {own} {c''} {r''} s h i j k l =
      did_fine (union_check t namespace standing (called full)) _ (sym g ∙ h)
      (did_after (row_of e full) _ refl i.0 i.1
      (subst (λ (x : List ℕ). Did m'' c'' m' r'' (each (alias_rows t x (e.depth + 1)) (aliases_in t aliases))) k
      (subst (λ (x : List ℕ). Did m'' c'' m' r'' (each (alias_rows t own (e.depth + 1)) x)) j l)))

-- ---- the name

known : (t namespace : List ℕ) (standing : Standing) (kind : Kind) (d q : ℕ) (o : Members) (size : ℕ) (note : Note) {m m' : List ℕ} {c : Counts}
    {w : List ℕ} → w ≡ defined_at t namespace o q → {x : Entry} → x ≡ entry kind d q size note → {r : Walked} → Did m c m' r (headed t (around namespace standing) x w o.aliases)
    → Did m c m' r (headed t (around namespace standing) (entry kind d q size note) (defined_at t namespace o q) o.aliases)
known t namespace standing kind d q o size note {m} {m'} {c} i {x} j {r} k =
    subst (λ (y : Entry). Did m c m' r (headed t (around namespace standing) y (defined_at t namespace o q) o.aliases)) j
    (subst (λ (y : List ℕ). Did m c m' r (headed t (around namespace standing) x y o.aliases)) i k)

module _ (t namespace : List ℕ) (standing : Standing) (kind : Kind) (d p : ℕ) (o : Members) (size : ℕ) (note : Note) {m m' buffer : List ℕ} {c : Counts}
    {s : Option ℕ} (e : s ≡ as_text t o.name) where
  pub titled_none : s ≡ None → Titled m c m' (Err (fault NameMissing p)) buffer (name_of t namespace o) (head_rows t (around namespace standing) kind d p o size note)
  unfolding head_rows name_of
  titled_none g = rw (← e, g) (titled_bad (no NameMissing p) (did_bad m m' c (fault NameMissing p)) refl)

  module _ {q : ℕ} (g : s ≡ Some q) where
    pub titled_wrong : {f : Fault} → definition_check t namespace o q ≡ Err f → Titled m c m' (Err f) buffer (name_of t namespace o) (head_rows t (around namespace standing) kind d p o size note)
    unfolding head_rows name_of
    titled_wrong h = rw (← e, g) (titled_bad (after (definition_check t namespace o q) _) (did_fault (definition_check t namespace o q) _ h) refl)

    module _ (h : definition_check t namespace o q ≡ Ok tt) {w : List ℕ} (i : w ≡ defined_at t namespace o q) {x : Entry} (j : x ≡ entry kind d q size note)
        {r : Walked} (k : Did m c m' r (headed t (around namespace standing) x w o.aliases)) where
      pub titled_stop : {f : Fault} → r ≡ Err f → Titled m c m' (Err f) buffer (name_of t namespace o) (head_rows t (around namespace standing) kind d p o size note)
      unfolding head_rows name_of
      titled_stop l = rw (← e, g) (titled_bad (after (definition_check t namespace o q) _) (did_fine (definition_check t namespace o q) _ h (known t namespace standing kind d q o size note i j k)) l)

      pub titled_done : {c' : Counts} {n : ℕ} → r ≡ Ok c' → n ≤ length buffer → take (n - 0) (drop 0 buffer) ≡ defined_at t namespace o q → Titled m c m' (defined_as n c') buffer (name_of t namespace o) (head_rows t (around namespace standing) kind d p o size note)
      unfolding head_rows name_of
      titled_done l u v = rw (← e, g) (titled_as (after (definition_check t namespace o q) _) (did_fine (definition_check t namespace o q) _ h (known t namespace standing kind d q o size note i j k)) l u v)

-- ---- what comes behind

pub definition_then : (t : List ℕ) (a : Around) (kind : Kind) (d p : ℕ) (o : Members) (size : ℕ) (note : Note) (rest : List ℕ → Out)
    → definition t a kind d p o size note rest ≡ and_then (head_rows t a kind d p o size note) (rest (namespace_part (name_of t a.namespace o)))
unfolding definition definition_rows head_rows headed name_of
definition_then t a kind d p o size note rest = go (as_text t o.name)
  where
    go : (s : Option ℕ) → on_spot s (λ q. definition_rows t a kind d o q size note rest) (no NameMissing p)
        ≡ and_then (on_spot s (λ q. after (definition_check t a.namespace o q) (headed t a (entry kind d q size note) (defined_at t a.namespace o q) o.aliases)) (no NameMissing p))
        (rest (namespace_part (on_spot s (defined_at t a.namespace o) [])))
    go None = refl
    go (Some q) =
        let full = defined_at t a.namespace o q in
        let own = namespace_part full in
        let al = each (alias_rows t own (d + 1)) (aliases_in t o.aliases) in
        let u = union_check t a.namespace a.standing (called full) in
        let x = definition_check t a.namespace o q in
        let rs = row_of (entry kind d q size note) full ∷ [] in
        ap (λ (y : Out). after x (after u y)) (rows_then_lem rs al (rest own))
        ∙ ap (after x) (after_then u (rows_then rs al) (rest own))
        ∙ after_then x (after u (rows_then rs al)) (rest own)

-- ---- enums

module _ (t : List ℕ) (d p : ℕ) (o : Members) {m m' : List ℕ} {c : Counts} {s : Option ℕ} (e : s ≡ as_array t o.symbols) where
  pub symbols_none : s ≡ None → Did m c m' (Err (fault SymbolsMissing p)) (symbols_rows t d p o)
  unfolding symbols_rows
  symbols_none g = rw (← e, g) (did_bad m m' c (fault SymbolsMissing p))

  module _ {v : ℕ} (g : s ≡ Some v) {r : Check} (h : r ≡ symbols_check t (elements t v)) where
    pub symbols_bad : {f : Fault} → r ≡ Err f → Did m c m' (Err f) (symbols_rows t d p o)
    unfolding symbols_rows
    symbols_bad i = rw (← e, g) (did_fault (symbols_check t (elements t v) then default_check t o.default (elements t v)) _ (rw (← h, i) refl))

    module _ (i : r ≡ Ok tt) {x : Check} (j : x ≡ default_check t o.default (elements t v)) where
      pub default_bad : {f : Fault} → x ≡ Err f → Did m c m' (Err f) (symbols_rows t d p o)
      unfolding symbols_rows
      default_bad k = rw (← e, g) (did_fault (symbols_check t (elements t v) then default_check t o.default (elements t v)) _ (rw (← h, i) (sym j ∙ k)))

      pub symbols_fine : x ≡ Ok tt → {r'' : Walked} → Did m c m' r'' (each (symbol_rows t d) (elements t v)) → Did m c m' r'' (symbols_rows t d p o)
      unfolding symbols_rows
      symbols_fine k l = rw (← e, g) (did_fine (symbols_check t (elements t v) then default_check t o.default (elements t v)) _ (rw (← h, i) (sym j ∙ k)) l)

pub enum_then : (t : List ℕ) (a : Around) (d p : ℕ) (o : Members) → enum_rows t a d p o ≡ and_then (head_rows t a Enum d p o 0 (noted 0)) (symbols_rows t (d + 1) p o)
unfolding enum_rows symbols_rows
enum_then t a d p o = definition_then t a Enum d p o 0 (noted 0) (λ own. symbols_rows t (d + 1) p o)

-- ---- fixeds

fixed_is : (t namespace : List ℕ) (standing : Standing) (d p : ℕ) (o : Members) {v : ℕ} → o.size ≡ Some v → {s : Option ℕ} → s ≡ size_of t v
    → {size : ℕ} → s ≡ Some size → {note : Note} → note ≡ note_of t o (over.Fixed size) → fixed_rows t (around namespace standing) d p o ≡ and_then (head_rows t (around namespace standing) Fixed d p o size note) (read [])
unfolding fixed_rows
fixed_is t namespace standing d p o {v} g {s} h {size} i {note} j =
    let a = around namespace standing in
    ap (λ (y : Option ℕ). on_spot y (λ v. on_spot (size_of t v) (λ size. definition t a Fixed d p o size (note_of t o (over.Fixed size)) (λ own. read [])) (no NotASize v)) (no SizeMissing p)) g
    ∙ ap (λ (z : Option ℕ). on_spot z (λ size. definition t a Fixed d p o size (note_of t o (over.Fixed size)) (λ own. read [])) (no NotASize v)) (sym h ∙ i)
    ∙ definition_then t a Fixed d p o size (note_of t o (over.Fixed size)) (λ own. read [])
    ∙ ap (λ (x : Note). and_then (head_rows t a Fixed d p o size x) (read [])) (sym j)

module _ (t namespace : List ℕ) (standing : Standing) (d p : ℕ) (o : Members) {m m' : List ℕ} {c : Counts} where
  pub size_none : o.size ≡ None → Did m c m' (Err (fault SizeMissing p)) (fixed_rows t (around namespace standing) d p o)
  unfolding fixed_rows
  size_none g = rw g (did_bad m m' c (fault SizeMissing p))

  module _ {v : ℕ} (g : o.size ≡ Some v) {s : Option ℕ} (h : s ≡ size_of t v) where
    pub size_not : s ≡ None → Did m c m' (Err (fault NotASize v)) (fixed_rows t (around namespace standing) d p o)
    unfolding fixed_rows
    size_not i = rw (g, ← h, i) (did_bad m m' c (fault NotASize v))

    module _ {size : ℕ} (i : s ≡ Some size) {note : Note} (j : note ≡ note_of t o (over.Fixed size)) {buffer full : List ℕ} {r : Result Defined Fault}
        (k : Titled m c m' r buffer full (head_rows t (around namespace standing) Fixed d p o size note)) where
      pub fixed_bad : {f : Fault} → r ≡ Err f → Did m c m' (Err f) (fixed_rows t (around namespace standing) d p o)
      fixed_bad l = did_eq (fixed_is t namespace standing d p o g h i j) (did_end (head_rows t (around namespace standing) Fixed d p o size note) (did_untitled _ k l))

      pub fixed_done : {n : ℕ} {c' : Counts} → r ≡ defined_as n c' → Did m c m' (Ok c') (fixed_rows t (around namespace standing) d p o)
      fixed_done l = did_eq (fixed_is t namespace standing d p o g h i j) (did_end (head_rows t (around namespace standing) Fixed d p o size note) (did_titled _ k l))
