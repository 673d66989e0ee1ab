-- What has a row stands within the text: names that passed their checks, brackets of forms.
-- Assumes nothing.
use Rattle.std.specs.Prelude.{Option, Some, None, Ok, Err, Result}
use mathlib.Core.Path.{◌≡◌, refl, sym, ap, ◌∙◌}
use mathlib.Core.Bool.{Bool, true, false, cond}
use mathlib.Core.List.{List, [], ◌∷◌}
use Prim.Native.Nat.{ℕ, zero, suc, ◌+◌, ◌-◌, ◌<◌, ◌≤◌}
use native.Mathlib.Omega.{arith}
use lib.Dec.{eqb, leb}
use lib.ListN.{length, take, drop}
use borrow.Author.Tests.{eqb-true, leb-true}
use Rattle.ground.specs.Ascii.{ascii}
use Rattle.ground.specs.Bytes.{byte_at, same}
use Rattle.ground.proofs.Laws.{never, length_store}
use Rattle.name.specs.Name.{every, is_empty, is_simple, is_dotted, is_name, starts_with_dot, parts}
use Rattle.name.specs.Full.{kept_limit, is_short}
use Rattle.row.specs.Kinds.{kind_number}
use Rattle.row.specs.declared.kind.Kind.TheVariants.{Reference}
use Rattle.view.specs.Strings.{bytes_from, string_at}
use Rattle.view.specs.Values.{shape_at, is_value}
use Rattle.view.specs.Members.{members_of}
use Rattle.view.specs.declared.shape.Shape.{Shape}
use Rattle.view.specs.declared.shape.Shape.TheVariants as shape
use Rattle.view.specs.declared.members.Members.{Members}
use Rattle.view.proofs.Laws.{in_text, value_in_text}
use Rattle.answer.specs.declared.refusal.Why.TheVariants.{TypeMissing, StringTooLong}
use Rattle.form.specs.declared.forms.Form.{Form}
use Rattle.form.specs.declared.forms.Form.TheVariants as form
use Rattle.form.specs.Checks.{fault, must, ◌then◌, Check}
use Rattle.form.specs.Spots.{on_spot, is_text}
use Rattle.form.specs.Names.{not_a_name, kept, unreserved, simple_check, full_at, reference_check, alias_check, namespace_check, defined_at, definition_check, named, kept_in}
use Rattle.form.specs.Forms.{word_kind, object_form, form_by, form_within, form_of, most_nested}
use Rattle.form.proofs.Laws.{must_fine, then_fine, named_kept, kept_copied}
use Rattle.answer.specs.declared.refusal.Fault.{Fault}

-- ---- a string that is not empty has its quote

name_some : (s : List ℕ) → is_name s ≡ true → is_empty s ≡ false
unfolding is_name is_simple is_empty starts_with_dot is_dotted parts every
name_some [] e = never e
name_some (b ∷ s) e = refl

simple_some : (s : List ℕ) → is_simple s ≡ true → is_empty s ≡ false
unfolding is_simple is_empty
simple_some [] e = never e
simple_some (b ∷ s) e = refl

word_some : (w : List ℕ) → eqb (kind_number (word_kind w)) (kind_number Reference) ≡ false → is_empty w ≡ false
unfolding word_kind same is_empty
word_some [] e = never (sym e)
word_some (b ∷ w) e = refl

string_within : (t : List ℕ) (q : ℕ) → is_empty (string_at t q) ≡ false → q < length t
unfolding string_at is_empty
string_within t q e = go (eqb (byte_at t q) 34) refl e
  where
    go : (b : Bool) → eqb (byte_at t q) 34 ≡ b → is_empty (cond b (bytes_from t (q + 1)) []) ≡ false → q < length t
    go true f g = in_text t q (byte_at t q) 34 refl (eqb-true (byte_at t q) 34 f) (omega arith)
    go false f g = never (sym g)

named_within : (t : List ℕ) (q : ℕ) (c : Check) → (must (is_name (string_at t q)) (not_a_name is_name t q) then c) ≡ Ok tt → q < length t
named_within t q c e =
    string_within t q (name_some (string_at t q) (must_fine (is_name (string_at t q)) (not_a_name is_name t q) (then_fine (must (is_name (string_at t q)) (not_a_name is_name t q)) c e).0))

kept_short : (s : List ℕ) (q : ℕ) → kept s q ≡ Ok tt → length s ≤ kept_limit
unfolding is_short
kept_short s q e = leb-true (length s) kept_limit (must_fine (leb (length s) kept_limit) (fault StringTooLong q) e)

last_fine : (a b : Check) → (a then b) ≡ Ok tt → b ≡ Ok tt
last_fine a b e = (then_fine a b e).1

-- a string, of which s is the full name, that passed its checks
pub record Passed (t s : List ℕ) (q : ℕ) : Type 0 where
  pub within : q < length t
  pub short : length s ≤ kept_limit

module _ (t : List ℕ) (q : ℕ) where
  pub word_within : eqb (kind_number (word_kind (string_at t q))) (kind_number Reference) ≡ false → q < length t
  word_within e = string_within t q (word_some (string_at t q) e)

  pub simple_within : simple_check t q ≡ Ok tt → q < length t
  unfolding simple_check
  simple_within e =
      string_within t q (simple_some (string_at t q)
      (must_fine (is_simple (string_at t q)) (not_a_name is_simple t q) (then_fine (must (is_simple (string_at t q)) (not_a_name is_simple t q)) (kept (string_at t q) q) e).0))

  pub reference_passed : (namespace : List ℕ) → reference_check t namespace q ≡ Ok tt → Passed t (full_at t namespace q) q
  unfolding reference_check
  reference_passed namespace e =
      let k = kept (full_at t namespace q) q in
      record { within = named_within t q k e; short = kept_short (full_at t namespace q) q (last_fine (must (is_name (string_at t q)) (not_a_name is_name t q)) k e) }

  pub alias_passed : (namespace : List ℕ) → alias_check t namespace q ≡ Ok tt → Passed t (full_at t namespace q) q
  unfolding alias_check
  alias_passed namespace e =
      let full = full_at t namespace q in
      let k = unreserved full q then kept full q in
      record {
        within = named_within t q k e;
        short = kept_short full q (last_fine (unreserved full q) (kept full q) (last_fine (must (is_name (string_at t q)) (not_a_name is_name t q)) k e));
      }

  pub definition_passed : (enclosing : List ℕ) (m : Members) → definition_check t enclosing m q ≡ Ok tt → Passed t (defined_at t enclosing m q) q
  unfolding definition_check
  definition_passed enclosing m e =
      let full = defined_at t enclosing m q in
      let k = unreserved full q then kept full q in
      let l = namespace_check t m q then k in
      record {
        within = named_within t q l e;
        short = kept_short full q (last_fine (unreserved full q) (kept full q)
            (last_fine (namespace_check t m q) k (last_fine (must (is_name (string_at t q)) (not_a_name is_name t q)) l e)));
      }

-- its full name lies in a buffer
pub record Held (t s : List ℕ) (q n : ℕ) (check : Check) (buffer : List ℕ) : Type 0 where
  pub fine : check ≡ Ok tt
  pub within : q < length t
  pub short : length s ≤ kept_limit
  pub room : n ≤ length buffer
  pub front : take (n - 0) (drop 0 buffer) ≡ s
  pub long : length (take (n - 0) (drop 0 buffer)) ≤ kept_limit

kept_length : (check : Check) (m s : List ℕ) → length (kept_in m check s) ≡ length m
kept_length (Ok tt) m s = length_store m 0 s
kept_length (Err f) m s = refl

held : (t s m : List ℕ) (q : ℕ) (check : Check) {m' : List ℕ} {r : Result ℕ Fault} {n : ℕ} → (check ≡ Ok tt → Passed t s q)
    → (r ≡ named check s) × (m' ≡ kept_in m check s) → r ≡ Ok n → length m' ≡ kept_limit → Held t s q n check m'
held t s m q check {m'} {r} {n} p e g l =
    let a = named_kept check s (sym g ∙ e.0) in
    let b = p a.0 in
    let d = kept_copied check s m (sym g ∙ e.0) e.1 b.short (sym (kept_length check m s) ∙ sym (ap length e.1) ∙ l) in
    record { fine = a.0; within = b.within; short = b.short; room = d.room; front = d.front; long = rw d.front b.short }

module _ (t namespace m : List ℕ) (q : ℕ) {m' : List ℕ} {r : Result ℕ Fault} {n : ℕ} where
  pub reference_held : (r ≡ named (reference_check t namespace q) (full_at t namespace q)) × (m' ≡ kept_in m (reference_check t namespace q) (full_at t namespace q))
      → r ≡ Ok n → length m' ≡ kept_limit → Held t (full_at t namespace q) q n (reference_check t namespace q) m'
  reference_held e g l = held t (full_at t namespace q) m q (reference_check t namespace q) (reference_passed t q namespace) e g l

  pub alias_held : (r ≡ named (alias_check t namespace q) (full_at t namespace q)) × (m' ≡ kept_in m (alias_check t namespace q) (full_at t namespace q))
      → r ≡ Ok n → length m' ≡ kept_limit → Held t (full_at t namespace q) q n (alias_check t namespace q) m'
  alias_held e g l = held t (full_at t namespace q) m q (alias_check t namespace q) (alias_passed t q namespace) e g l

  pub definition_held : (o : Members) → (r ≡ named (definition_check t namespace o q) (defined_at t namespace o q))
      × (m' ≡ kept_in m (definition_check t namespace o q) (defined_at t namespace o q))
      → r ≡ Ok n → length m' ≡ kept_limit → Held t (defined_at t namespace o q) q n (definition_check t namespace o q) m'
  definition_held o e g l = held t (defined_at t namespace o q) m q (definition_check t namespace o q) (definition_passed t q namespace o) e g l

-- ---- the bracket of an array, a map or a union stands within the text

abbrev Placed : List ℕ → Form → Type 0
Placed t (form.Word q o) = Unit {0}
Placed t (form.ArrayOf p) = p < length t
Placed t (form.MapOf p) = p < length t
Placed t (form.UnionOf p) = p < length t
Placed t (form.RecordOf p) = Unit {0}
Placed t (form.EnumOf p) = Unit {0}
Placed t (form.FixedOf p) = Unit {0}
Placed t (form.Wrong f) = Unit {0}

module _ (t : List ℕ) where
  either : (b : Bool) (x y : Form) → Placed t x → Placed t y → Placed t (cond b x y)
  either true x y h k = h
  either false x y h k = k

  object_placed : (w : List ℕ) (p q : ℕ) → p < length t → Placed t (object_form w p q)
  unfolding object_form
  object_placed w p q h =
      either (same w (ascii "record")) (form.RecordOf p) _ tt
      (either (same w (ascii "enum")) (form.EnumOf p) _ tt
      (either (same w (ascii "fixed")) (form.FixedOf p) _ tt
      (either (same w (ascii "array")) (form.ArrayOf p) _ h
      (either (same w (ascii "map")) (form.MapOf p) (form.Word q (Some p)) h tt))))

  shape_within : (p : ℕ) (s : Shape) → shape_at t p ≡ s → is_value s ≡ true → p < length t
  shape_within p s e v = value_in_text t p (byte_at t p) refl (ap is_value e ∙ v)

  by_placed : (nested : ℕ → Form) → ((q : ℕ) → Placed t (nested q)) → (p : ℕ) (s : Shape) → shape_at t p ≡ s → Placed t (form_by nested t p s)
  unfolding form_by is_value
  by_placed nested h p shape.Text e = tt
  by_placed nested h p shape.Number e = tt
  by_placed nested h p shape.Object e = go (members_of t p).typed
    where
      go : (s : Option ℕ) → Placed t (on_spot s (λ q. cond (is_text (shape_at t q)) (object_form (string_at t q) p q) (nested q)) (form.Wrong (fault TypeMissing p)))
      go (Some q) = either (is_text (shape_at t q)) (object_form (string_at t q) p q) (nested q) (object_placed (string_at t q) p q (shape_within p shape.Object e refl)) (h q)
      go None = tt
  by_placed nested h p shape.Array e = shape_within p shape.Array e refl
  by_placed nested h p shape.Word e = tt
  by_placed nested h p shape.Nothing e = tt

  form_placed : (n p : ℕ) → Placed t (form_within n t p)
  unfolding form_within
  form_placed zero p = tt
  form_placed (suc n) p = by_placed (form_within n t) (form_placed n) p (shape_at t p) refl

  placed : {f : Form} (p : ℕ) → form_of t p ≡ f → Placed t f
  placed p e = rw e at (form_placed most_nested p)

  pub array_within : {q : ℕ} (p : ℕ) → form_of t p ≡ form.ArrayOf q → q < length t
  array_within p e = placed p e

  pub map_within : {q : ℕ} (p : ℕ) → form_of t p ≡ form.MapOf q → q < length t
  map_within p e = placed p e

  pub union_within : {q : ℕ} (p : ℕ) → form_of t p ≡ form.UnionOf q → q < length t
  union_within p e = placed p e
