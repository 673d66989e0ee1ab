-- What tells the members of a union apart: one law for each way out of the code, and the turns of its loops.
-- Assumes nothing.
use Rattle.std.specs.Prelude.{Option, Some, None, Ok}
use mathlib.Core.Path.{◌≡◌, refl, sym, ap, ap₂, ◌∙◌}
use mathlib.Core.Bool.{Bool, true, false, not, cond, ◌&&◌, ◌||◌}
use mathlib.Core.List.{List, [], ◌∷◌}
use Prim.Native.Nat.{ℕ, ◌+◌, ◌-◌, ◌<◌, ◌≤◌}
use native.Mathlib.Nat.{sub-zero}
use native.Mathlib.Omega.{arith}
use lib.Dec.{eqb}
use lib.ListN.{length, take, drop, length-take}
use lib.Seq.{take-append_seam}
use Rattle.answer.specs.declared.refusal.Fault.{Fault}
use Rattle.answer.specs.declared.refusal.Why.TheVariants.{UnionRuleBroken}
use Rattle.ground.specs.Bytes.{same, store}
use Rattle.ground.proofs.Laws.{same_unlike, store_fits}
use Rattle.name.specs.Name.{is_empty, has_dot, starts_with_dot, full_name}
use Rattle.name.specs.Full.{kept_limit, answer_of, buffer_after}
use Rattle.name.proofs.Laws.{length_full, answer_long, too_long, buffer_length, buffer_long, fits_room, fits_front}
use Rattle.row.specs.Kinds.{kind_number}
use Rattle.row.specs.declared.kind.Kind.{Kind}
use Rattle.row.specs.declared.kind.Kind.TheVariants.{Null, Boolean, Int, Long, Float, Double, Bytes, String, Reference, Array, Map, Union, Record, Enum, Fixed, Field, Symbol, Alias, FieldAlias}
use Rattle.view.specs.declared.members.Members.{Members}
use Rattle.view.specs.Elements.{elements}
use Rattle.view.specs.Strings.{string_at}
use Rattle.view.specs.Members.{members_of}
use Rattle.form.specs.declared.forms.Form.{Form}
use Rattle.form.specs.declared.forms.Form.TheVariants as form
use Rattle.form.specs.declared.forms.Found.{Found}
use Rattle.rules.specs.declared.standing.Standing.{Standing}
use Rattle.rules.specs.declared.standing.Standing.TheVariants.{Alone, MemberOf}
use Rattle.form.specs.Checks.{fault, must, Check}
use Rattle.form.specs.Spots.{on_spot, as_text}
use Rattle.form.specs.Names.{full_at, namespace_of, defined_at}
use Rattle.form.specs.Forms.{form_of, word_kind, found_of}
use Rattle.rules.specs.declared.unions.Apart.{Apart}
use Rattle.rules.specs.declared.unions.Apart.TheVariants as apart
use Rattle.rules.specs.Unions.{Head, unnamed, called, clash, word_head, definition_head, head_of, head_number, name_of, by_name, apart_of, name_after, before, is_new, union_check}
use Rattle.form.proofs.Laws.{found_form, found_members}
use Rattle.rules.proofs.Earlier.{some}

-- ---- the head of what was found, by the form's case; a definition's by the members

module _ (t : List ℕ) (p : ℕ) {x : Found} (e : x ≡ found_of t (form_of t p)) (namespace : List ℕ) {f : Form} (g : x.form ≡ f) where
  pub head_is : {h : Head} → head_of t namespace f ≡ h → h ≡ head_of t namespace (form_of t p)
  head_is i = sym i ∙ ap (head_of t namespace) (sym (found_form t p e g))

  pub definition_is : head_of t namespace f ≡ definition_head t namespace (found_of t f).members
      → definition_head t namespace x.members ≡ head_of t namespace (form_of t p)
  definition_is i = ap (definition_head t namespace) (found_members t p e g) ∙ head_is i

-- ---- kinds

-- every kind has a number, and it is not 0
kind_some : (k : Kind) → eqb 0 (kind_number k) ≡ false
kind_some Null = refl
kind_some Boolean = refl
kind_some Int = refl
kind_some Long = refl
kind_some Float = refl
kind_some Double = refl
kind_some Bytes = refl
kind_some String = refl
kind_some Reference = refl
kind_some Array = refl
kind_some Map = refl
kind_some Union = refl
kind_some Record = refl
kind_some Enum = refl
kind_some Fixed = refl
kind_some Field = refl
kind_some Symbol = refl
kind_some Alias = refl
kind_some FieldAlias = refl

clash_kind : (h : Head) (k : Kind) → clash h (unnamed k) ≡ eqb (head_number h) (kind_number k)
unfolding clash
clash_kind (unnamed j) k = refl
clash_kind (called a) k = sym (kind_some k)

-- the head of a form, by its case
module _ (t namespace : List ℕ) where
  pub head_word : (q : ℕ) (o : Option ℕ) → head_of t namespace (form.Word q o) ≡ word_head t namespace q (word_kind (string_at t q))
  unfolding head_of
  head_word q o = refl

  pub head_array : (p : ℕ) → head_of t namespace (form.ArrayOf p) ≡ unnamed Array
  unfolding head_of
  head_array p = refl

  pub head_map : (p : ℕ) → head_of t namespace (form.MapOf p) ≡ unnamed Map
  unfolding head_of
  head_map p = refl

  pub head_union : (p : ℕ) → head_of t namespace (form.UnionOf p) ≡ unnamed Union
  unfolding head_of
  head_union p = refl

  -- a definition by the members that were found with it
  pub head_record : (p : ℕ) → head_of t namespace (form.RecordOf p) ≡ definition_head t namespace (found_of t (form.RecordOf p)).members
  unfolding head_of found_of
  head_record p = refl

  pub head_enum : (p : ℕ) → head_of t namespace (form.EnumOf p) ≡ definition_head t namespace (found_of t (form.EnumOf p)).members
  unfolding head_of found_of
  head_enum p = refl

  pub head_fixed : (p : ℕ) → head_of t namespace (form.FixedOf p) ≡ definition_head t namespace (found_of t (form.FixedOf p)).members
  unfolding head_of found_of
  head_fixed p = refl

  pub head_wrong : (f : Fault) → head_of t namespace (form.Wrong f) ≡ called []
  unfolding head_of
  head_wrong f = refl

  -- a definition is told by its full name
  pub definition_number : (m : Members) → head_number (definition_head t namespace m) ≡ 0
  unfolding definition_head
  definition_number m = go (as_text t m.name)
    where
      go : (s : Option ℕ) → head_number (on_spot s (λ q. called (defined_at t namespace m q)) (called [])) ≡ 0
      go (Some q) = refl
      go None = refl

-- the kind that tells is the same in all namespaces
word_free : (t namespace : List ℕ) (q : ℕ) (k : Kind) → head_number (word_head t [] q k) ≡ head_number (word_head t namespace q k)
word_free t namespace q k = go (eqb (kind_number k) 16)
  where
    go : (b : Bool) → head_number (cond b (called (full_at t [] q)) (unnamed k)) ≡ head_number (cond b (called (full_at t namespace q)) (unnamed k))
    go true = refl
    go false = refl

number_free : (t namespace : List ℕ) (f : Form) → head_number (head_of t [] f) ≡ head_number (head_of t namespace f)
unfolding head_of
number_free t namespace (form.Word q o) = word_free t namespace q (word_kind (string_at t q))
number_free t namespace (form.ArrayOf p) = refl
number_free t namespace (form.MapOf p) = refl
number_free t namespace (form.UnionOf p) = refl
number_free t namespace (form.RecordOf p) = definition_number t [] (members_of t p) ∙ sym (definition_number t namespace (members_of t p))
number_free t namespace (form.EnumOf p) = definition_number t [] (members_of t p) ∙ sym (definition_number t namespace (members_of t p))
number_free t namespace (form.FixedOf p) = definition_number t [] (members_of t p) ∙ sym (definition_number t namespace (members_of t p))
number_free t namespace (form.Wrong f) = refl

-- ---- full names

-- of a name at most a leading dot is dropped
full_shrinks : (namespace s : List ℕ) → length s ≤ length (full_name namespace s) + 1
full_shrinks namespace s = go (not (has_dot s) && not (is_empty namespace)) (starts_with_dot s) (length_full namespace s)
  where
    go : (x y : Bool) {n : ℕ} → n ≡ cond x (length namespace + 1 + length s) (cond y (length s - 1) (length s)) → length s ≤ n + 1
    go true y e = omega arith
    go false true e = omega arith
    go false false e = omega arith

module _ (t namespace : List ℕ) (q : ℕ) (m : List ℕ) where
  pub full_is : {u w : List ℕ} → u ≡ namespace → w ≡ string_at t q → {a : Option ℕ} {m' : List ℕ} → (a ≡ answer_of (full_name u w)) × (m' ≡ buffer_after m (full_name u w))
      → (a ≡ answer_of (full_at t namespace q)) × (m' ≡ buffer_after m (full_at t namespace q))
  unfolding full_at
  full_is d e f = rw (← d, ← e) f

  pub full_long : {n : ℕ} → n ≡ length (string_at t q) → kept_limit + 1 < n → (None ≡ answer_of (full_at t namespace q)) × (m ≡ buffer_after m (full_at t namespace q))
  unfolding full_at
  full_long e l =
      let z = full_shrinks namespace (string_at t q) in
      let k : kept_limit < length (full_name namespace (string_at t q)) = omega arith in
      (sym (answer_long (full_name namespace (string_at t q)) k), sym (buffer_long (full_name namespace (string_at t q)) m k))

-- a string in a buffer that has room for it
pub stored : (s m : List ℕ) {m' : List ℕ} {n : ℕ} → (n ≡ length s) × (m' ≡ store m 0 s) → n ≤ length m → take (n - 0) (drop 0 m') ≡ s
stored s m e h =
    let w : 0 + length s ≤ length m = omega (arith, e.0, h) in
    rw (e.1, e.0, sub-zero, store_fits m 0 s w) (take-append_seam s (drop (0 + length s) m))

full_none : full_name [] [] ≡ []
unfolding full_name has_dot starts_with_dot is_empty
full_none = refl

-- of a definition
module _ (t enclosing : List ℕ) (m : Members) (p : ℕ) {z : Option ℕ} (h : z ≡ as_text t m.namespace) where
  full_in : {z' : Option ℕ} → z ≡ z' → full_at t (on_spot z' (string_at t) enclosing) p ≡ defined_at t enclosing m p
  unfolding defined_at namespace_of
  full_in i = ap (λ (x : Option ℕ). full_at t (on_spot x (string_at t) enclosing) p) (sym i ∙ h)

module _ (t enclosing : List ℕ) (m : Members) (b : List ℕ) {b' : List ℕ} {a : Option ℕ} {s : Option ℕ} (e : s ≡ as_text t m.name) where
  named : {s' : Option ℕ} → s ≡ s' → (a ≡ answer_of (on_spot s' (defined_at t enclosing m) [])) × (b' ≡ buffer_after b (on_spot s' (defined_at t enclosing m) []))
      → (a ≡ answer_of (name_of t enclosing m)) × (b' ≡ buffer_after b (name_of t enclosing m))
  unfolding name_of
  named g h = rw (← e, g) h

  pub named_none : s ≡ None → (a ≡ answer_of (full_name [] [])) × (b' ≡ buffer_after b (full_name [] []))
      → (a ≡ answer_of (name_of t enclosing m)) × (b' ≡ buffer_after b (name_of t enclosing m))
  named_none g h = named g (h.0 ∙ ap answer_of full_none, h.1 ∙ ap (buffer_after b) full_none)

  module _ {p : ℕ} (g : s ≡ Some p) {z : Option ℕ} (h : z ≡ as_text t m.namespace) where
    pub named_in : z ≡ None → (a ≡ answer_of (full_at t enclosing p)) × (b' ≡ buffer_after b (full_at t enclosing p))
        → (a ≡ answer_of (name_of t enclosing m)) × (b' ≡ buffer_after b (name_of t enclosing m))
    named_in i j = named g (j.0 ∙ ap answer_of (full_in t enclosing m p h i), j.1 ∙ ap (buffer_after b) (full_in t enclosing m p h i))

    pub named_within : {q : ℕ} → z ≡ Some q → (a ≡ answer_of (full_at t (string_at t q) p)) × (b' ≡ buffer_after b (full_at t (string_at t q) p))
        → (a ≡ answer_of (name_of t enclosing m)) × (b' ≡ buffer_after b (name_of t enclosing m))
    named_within i j = named g (j.0 ∙ ap answer_of (full_in t enclosing m p h i), j.1 ∙ ap (buffer_after b) (full_in t enclosing m p h i))

-- ---- what tells a head apart

module _ (m : List ℕ) {m' : List ℕ} {x : Apart} where
  pub apart_is : {g h : Head} → g ≡ h → (x ≡ apart_of g) × (m' ≡ name_after m g) → (x ≡ apart_of h) × (m' ≡ name_after m h)
  apart_is e f = rw (← e) f

  pub apart_called : {a : Option ℕ} (s : List ℕ) → (a ≡ answer_of s) × (m' ≡ buffer_after m s) → x ≡ by_name a → (x ≡ apart_of (called s)) × (m' ≡ name_after m (called s))
  unfolding apart_of name_after
  apart_called s e f = (f ∙ ap by_name e.0, e.1)

pub apart_none : (m : List ℕ) {a : Option ℕ} {m' : List ℕ} {x : Apart} → (a ≡ answer_of (full_name [] [])) × (m' ≡ buffer_after m (full_name [] [])) → x ≡ by_name a
    → (x ≡ apart_of (called [])) × (m' ≡ name_after m (called []))
apart_none m e f = apart_called m [] (e.0 ∙ ap answer_of full_none, e.1 ∙ ap (buffer_after m) full_none) f

pub apart_kind : (k : Kind) {n : ℕ} → n ≡ kind_number k → (m : List ℕ) → (apart.Kind n ≡ apart_of (unnamed k)) × (m ≡ name_after m (unnamed k))
unfolding apart_of name_after
apart_kind k e m = (ap apart.Kind e, refl)

pub definition_called : (t namespace : List ℕ) (m : Members) → called (name_of t namespace m) ≡ definition_head t namespace m
unfolding name_of definition_head
definition_called t namespace m = go (as_text t m.name)
  where
    go : (s : Option ℕ) → called (on_spot s (defined_at t namespace m) []) ≡ on_spot s (λ q. called (defined_at t namespace m q)) (called [])
    go (Some q) = refl
    go None = refl

-- by the answer: a full name that is in the buffer, one that is too long, a kind
module _ (m : List ℕ) {m' : List ℕ} (l : length m' ≡ kept_limit) where
  name_full : (s : List ℕ) → m' ≡ buffer_after m s → (a : Option ℕ) → answer_of s ≡ a → {n : ℕ} → by_name a ≡ apart.Name n → (n ≤ length m') × (take (n - 0) (drop 0 m') ≡ s)
  name_full s e (Some j) f {n} g =
      let h : j ≡ n = cc in
      let k : length m ≡ kept_limit = sym (ap length e ∙ buffer_length s m) ∙ l in
      (fits_room s m m' (answer_of s) refl e n (f ∙ ap Some h) k, fits_front s m m' (answer_of s) refl e n (f ∙ ap Some h) k)
  name_full s e None f g = let z : ◌≡◌ {A = ℕ} 0 1 = cc in absurd (omega arith)

  pub apart_name : (h : Head) {x : Apart} → (x ≡ apart_of h) × (m' ≡ name_after m h) → {n : ℕ} → x ≡ apart.Name n → (n ≤ length m') × (called (take (n - 0) (drop 0 m')) ≡ h)
  unfolding apart_of name_after
  apart_name (unnamed k) e f = let z : ◌≡◌ {A = ℕ} 0 1 = cc in absurd (omega arith)
  apart_name (called s) e f = let r = name_full s e.1 (answer_of s) refl (sym e.0 ∙ f) in (r.0, ap called r.1)

  pub apart_short : (h : Head) {x : Apart} → (x ≡ apart_of h) × (m' ≡ name_after m h) → {n : ℕ} → x ≡ apart.Name n → length (take (n - 0) (drop 0 m')) ≤ kept_limit
  apart_short h e {n} f = let r = (apart_name h e f).0 in let z = length-take (n - 0) (drop 0 m') in omega arith

-- a kind, and a full name that is too long, are no other's name
module _ (h : Head) (name : List ℕ) {x : Apart} (e : x ≡ apart_of h) where
  pub clash_kinded : {k : ℕ} → x ≡ apart.Kind k → false ≡ clash h (called name)
  unfolding clash apart_of
  clash_kinded {k} f = go h (sym e ∙ f)
    where
      named : (a : Option ℕ) → by_name a ≡ apart.Kind k → ⊥
      named (Some n) g = let z : ◌≡◌ {A = ℕ} 0 1 = cc in omega arith
      named None g = let z : ◌≡◌ {A = ℕ} 0 1 = cc in omega arith

      go : (h : Head) → apart_of h ≡ apart.Kind k → false ≡ clash h (called name)
      go (unnamed j) g = refl
      go (called s) g = absurd (named (answer_of s) g)

  pub clash_long : length name ≤ kept_limit → x ≡ apart.LongName → false ≡ clash h (called name)
  unfolding clash apart_of
  clash_long l f = go h (sym e ∙ f)
    where
      long : (s : List ℕ) (a : Option ℕ) → answer_of s ≡ a → by_name a ≡ apart.LongName → false ≡ same s name
      long s (Some n) g i = let z : ◌≡◌ {A = ℕ} 0 1 = cc in absurd (omega arith)
      long s None g i = let z = too_long s g in sym (same_unlike s name (λ (j : length s ≡ length name). omega arith))

      go : (h : Head) → apart_of h ≡ apart.LongName → false ≡ clash h (called name)
      go (unnamed j) g = let z : ◌≡◌ {A = ℕ} 0 1 = cc in absurd (omega arith)
      go (called s) g = long s (answer_of s) refl g

pub clash_called : (h : Head) (name : List ℕ) {s : List ℕ} → called s ≡ h → {b : Bool} → b ≡ same s name → b ≡ clash h (called name)
unfolding clash
clash_called h name e f = rw (← e) f

-- ---- the members before

abbrev pub Clashes : List ℕ → List ℕ → Head → ℕ → Bool
Clashes t namespace h q = clash (head_of t namespace (form_of t q)) h

not_or : (a b : Bool) → (not a && not b) ≡ not (a || b)
not_or true b = refl
not_or false b = refl

pub new_some : (t namespace : List ℕ) (h : Head) (ps : List ℕ) → not (some (Clashes t namespace h) ps) ≡ is_new t namespace h ps
unfolding some is_new
new_some t namespace h [] = refl
new_some t namespace h (p ∷ ps) =
    sym (not_or (Clashes t namespace h p) (some (Clashes t namespace h) ps)) ∙ ap (λ (z : Bool). not (Clashes t namespace h p) && z) (new_some t namespace h ps)

-- where a kind is looked for, the number tells
abbrev pub Numbered : List ℕ → ℕ → ℕ → Bool
Numbered t n q = eqb (head_number (head_of t [] (form_of t q))) n

pub kind_some_new : (t namespace : List ℕ) (k : Kind) {n : ℕ} → n ≡ kind_number k → (ps : List ℕ) → not (some (Numbered t n) ps) ≡ is_new t namespace (unnamed k) ps
unfolding some is_new
kind_some_new t namespace k e [] = refl
kind_some_new t namespace k {n} e (p ∷ ps) =
    let z : Numbered t n p ≡ Clashes t namespace (unnamed k) p =
    ap₂ eqb (number_free t namespace (form_of t p)) e ∙ sym (clash_kind (head_of t namespace (form_of t p)) k) in
    sym (not_or (Numbered t n p) (some (Numbered t n) ps)) ∙ ap₂ (λ (a b : Bool). not a && b) z (kind_some_new t namespace k e ps)

-- ---- the rule

module _ (t namespace : List ℕ) {s : Standing} where
  pub alone_fine : (h : Head) → s ≡ Alone → Ok tt ≡ union_check t namespace s h
  unfolding union_check
  alone_fine h e = rw e

  module _ {u p : ℕ} (e : s ≡ MemberOf u p) where
    pub name_new : (a : List ℕ) {b : Bool} → b ≡ is_new t namespace (called a) (before p (elements t u))
        → {r : Check} → r ≡ must b (fault UnionRuleBroken p) → r ≡ union_check t namespace s (called a)
    unfolding union_check
    name_new a i j = rw (e, ← i) j
