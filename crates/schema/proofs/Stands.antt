-- A member of a union that passes 19 is read as if it stood alone.
-- Assumes nothing.
use Rattle.std.specs.Prelude.{Option, Some, None, Ok}
use mathlib.Core.Path.{◌≡◌, refl, sym, ap, subst}
use mathlib.Core.Bool.{Bool, true, false, cond}
use mathlib.Core.List.{List, [], ◌∷◌}
use Prim.Native.Nat.{ℕ, zero, suc, ◌<◌}
use lib.Dec.{eqb, ltb}
use borrow.Author.Tests.{ltb-true}
use Rattle.answer.specs.declared.refusal.Why.TheVariants.{NameMissing, SizeMissing, NotASize}
use Rattle.row.specs.Kinds.{kind_number}
use Rattle.row.specs.declared.kind.Kind.{Kind}
use Rattle.row.specs.declared.kind.Kind.TheVariants.{Reference, Array, Map, Union, Record, Enum, Fixed}
use Rattle.view.specs.declared.members.Members.{Members}
use Rattle.view.specs.Elements.{first_element, next_element, elements_at}
use Rattle.view.specs.Members.{members_of}
use Rattle.view.specs.Size.{size_of}
use Rattle.view.specs.Strings.{string_at}
use Rattle.view.proofs.Laws.{left_start, left_next}
use Rattle.form.specs.declared.forms.Form.{Form}
use Rattle.form.specs.declared.forms.Form.TheVariants as form
use Rattle.form.specs.declared.note.Note.{Note}
use Rattle.form.specs.declared.note.Plain.TheVariants as over
use Rattle.form.specs.Spots.{on_spot, as_text}
use Rattle.form.specs.Names.{full_at, reference_check, defined_at, definition_check}
use Rattle.form.specs.Forms.{word_kind, form_of}
use Rattle.form.specs.Notes.{note_of}
use Rattle.rules.specs.declared.standing.Standing.{Standing}
use Rattle.rules.specs.declared.standing.Standing.TheVariants.{Alone, MemberOf}
use Rattle.rules.specs.Unions.{Head, called, unnamed, definition_head, head_of, union_check}
use Rattle.rules.specs.Members.{member_check, SureOf, Sure, standing_of}
use Rattle.schema.specs.Out.{Out, after, no, read}
use Rattle.schema.specs.Schema.{Around, within, reference_rows, primitive_rows, word_rows, definition_rows, definition, record_rows, enum_rows, fixed_rows, part_rows, union_rows, schema_by, schema_of}
use Rattle.schema.specs.Did.{around}

module _ (t namespace : List ℕ) (u q : ℕ) where
  member : Around
  member = around namespace (MemberOf u q)

  Passes : Head → Type 0
  Passes h = union_check t namespace (MemberOf u q) h ≡ Ok tt

  after_sure : (h : Head) → Passes h → (next : Out) → after (union_check t namespace Alone h) next ≡ after (union_check t namespace (MemberOf u q) h) next
  unfolding union_check Passes
  after_sure h e next = rw e

  word_sure : (d : ℕ) (k : Kind) (r : ℕ) (o : Option ℕ) (b : Bool) → Passes (cond b (called (full_at t namespace r)) (unnamed k))
      → cond b (reference_rows t (within namespace) d r) (primitive_rows t (within namespace) d k r o) ≡ cond b (reference_rows t member d r) (primitive_rows t member d k r o)
  unfolding reference_rows primitive_rows member
  word_sure d k r o true e = ap (after (reference_check t namespace r)) (after_sure (called (full_at t namespace r)) e _)
  word_sure d k r o false e = after_sure (unnamed k) e _

  definition_sure : (kind : Kind) (d p : ℕ) (o : Members) (size : ℕ) (note : Note) (rest : List ℕ → Out) → Passes (definition_head t namespace o)
      → definition t (within namespace) kind d p o size note rest ≡ definition t member kind d p o size note rest
  unfolding definition definition_rows definition_head member
  definition_sure kind d p o size note rest e = go (as_text t o.name) e
    where
      go : (s : Option ℕ) → Passes (on_spot s (λ r. called (defined_at t namespace o r)) (called []))
          → on_spot s (λ r. definition_rows t (within namespace) kind d o r size note rest) (no NameMissing p) ≡ on_spot s (λ r. definition_rows t member kind d o r size note rest) (no NameMissing p)
      go None f = refl
      go (Some r) f = ap (after (definition_check t namespace o r)) (after_sure (called (defined_at t namespace o r)) f _)

  fixed_sure : (d p : ℕ) (o : Members) → Passes (definition_head t namespace o) → fixed_rows t (within namespace) d p o ≡ fixed_rows t member d p o
  unfolding fixed_rows
  fixed_sure d p o e = go o.size
    where
      sized : (v : ℕ) (z : Option ℕ) → on_spot z (λ size. definition t (within namespace) Fixed d p o size (note_of t o (over.Fixed size)) (λ own. read [])) (no NotASize v)
          ≡ on_spot z (λ size. definition t member Fixed d p o size (note_of t o (over.Fixed size)) (λ own. read [])) (no NotASize v)
      sized v (Some size) = definition_sure Fixed d p o size (note_of t o (over.Fixed size)) (λ own. read []) e
      sized v None = refl

      go : (s : Option ℕ) → on_spot s (λ v. on_spot (size_of t v) (λ size. definition t (within namespace) Fixed d p o size (note_of t o (over.Fixed size)) (λ own. read [])) (no NotASize v)) (no SizeMissing p)
          ≡ on_spot s (λ v. on_spot (size_of t v) (λ size. definition t member Fixed d p o size (note_of t o (over.Fixed size)) (λ own. read [])) (no NotASize v)) (no SizeMissing p)
      go (Some v) = sized v (size_of t v)
      go None = refl

  form_sure : (schema : Around → ℕ → ℕ → Out) (d : ℕ) (f : Form) → Passes (head_of t namespace f) → schema_by schema t (within namespace) d f ≡ schema_by schema t member d f
  unfolding schema_by head_of word_rows part_rows union_rows record_rows enum_rows member
  form_sure schema d (form.Word r o) e = word_sure d (word_kind (string_at t r)) r o (eqb (kind_number (word_kind (string_at t r))) (kind_number Reference)) e
  form_sure schema d (form.ArrayOf p) e = after_sure (unnamed Array) e _
  form_sure schema d (form.MapOf p) e = after_sure (unnamed Map) e _
  form_sure schema d (form.UnionOf p) e = after_sure (unnamed Union) e _
  form_sure schema d (form.RecordOf p) e = definition_sure Record d p (members_of t p) 0 _ _ e
  form_sure schema d (form.EnumOf p) e = definition_sure Enum d p (members_of t p) 0 _ _ e
  form_sure schema d (form.FixedOf p) e = fixed_sure d p (members_of t p) e
  form_sure schema d (form.Wrong f) e = refl

  schema_sure : (left d : ℕ) → member_check t namespace u q ≡ Ok tt → schema_of left t (around namespace Alone) d q ≡ schema_of left t (around namespace (MemberOf u q)) d q
  unfolding schema_of member Passes
  schema_sure zero d e = refl
  schema_sure (suc left) d e = form_sure (schema_of left t) d (form_of t q) e

  -- as the code reads it, and as the definition does
  pub member_is : (left d place : ℕ) {s : Standing} → s ≡ standing_of u q place → (q < place → member_check t namespace u q ≡ Ok tt)
      → schema_of left t (around namespace (MemberOf u q)) d q ≡ schema_of left t (around namespace s) d q
  member_is left d place {s} e f = go (ltb q place) refl e
    where
      go : (b : Bool) → ltb q place ≡ b → s ≡ cond b Alone (MemberOf u q) → schema_of left t (around namespace (MemberOf u q)) d q ≡ schema_of left t (around namespace s) d q
      go true g i = rw i (sym (schema_sure left d (f (ltb-true q place g))))
      go false g i = rw i

-- ---- the members that are left

module _ (t namespace : List ℕ) (u place : ℕ) {s : Option ℕ} where
  pub sure_start : Sure t namespace u place → s ≡ first_element t u → SureOf t namespace u place (elements_at t s)
  sure_start h e = subst (λ (l : List ℕ). SureOf t namespace u place l) (sym (left_start t u e)) h.sure

  module _ (h : SureOf t namespace u place (elements_at t s)) {q : ℕ} (e : s ≡ Some q) where
    sure_both : {s' : Option ℕ} → s' ≡ next_element t q → SureOf t namespace u place (q ∷ elements_at t s')
    sure_both f = subst (λ (l : List ℕ). SureOf t namespace u place l) (left_next t e f) h

    pub sure_here : q < place → member_check t namespace u q ≡ Ok tt
    sure_here = (sure_both refl).0

    pub sure_next : {s' : Option ℕ} → s' ≡ next_element t q → SureOf t namespace u place (elements_at t s')
    sure_next f = (sure_both f).1
