-- What a schema at a place is: one law for each way out of the loop that follows nested schemas, and its turn.
-- Assumes nothing.
use Rattle.std.specs.Prelude.{Option, Some, None}
use mathlib.Core.Path.{◌≡◌, refl, sym, ap, ◌∙◌}
use mathlib.Core.Bool.{Bool, true, false, cond}
use mathlib.Core.List.{List}
use Prim.Native.Nat.{ℕ, zero, suc, ◌-◌, ◌<◌, ◌≤◌}
use native.Mathlib.Omega.{arith}
use Rattle.answer.specs.declared.refusal.Why.TheVariants.{NotASchema, TypeMissing, NestedTooDeep}
use Rattle.ground.specs.Ascii.{ascii}
use Rattle.ground.specs.Bytes.{same}
use Rattle.ground.proofs.Laws.{never}
use Rattle.view.specs.declared.shape.Shape.{Shape}
use Rattle.view.specs.declared.shape.Shape.TheVariants.{Text, Number, Object, Array, Word, Nothing}
use Rattle.view.specs.Values.{shape_at}
use Rattle.view.specs.Strings.{string_at}
use Rattle.view.specs.Members.{members_of}
use Rattle.view.specs.declared.members.Members.{Members}
use Rattle.form.specs.declared.forms.Form.{Form}
use Rattle.form.specs.declared.forms.Form.TheVariants as form
use Rattle.form.specs.declared.forms.Found.{Found}
use Rattle.form.specs.Checks.{fault}
use Rattle.form.specs.Spots.{on_spot, is_text, is_object, is_array}
use Rattle.form.specs.Forms.{object_form, form_by, form_within, form_of, object_of, no_members, found, found_of}

object_is : (s : Shape) → is_object s ≡ true → s ≡ Object
object_is Text e = never e
object_is Number e = never e
object_is Object e = refl
object_is Array e = never e
object_is Word e = never e
object_is Nothing e = never e

-- what is no object
by_other : (nested : ℕ → Form) (t : List ℕ) (p : ℕ) (s : Shape) → is_object s ≡ false
    → form_by nested t p s ≡ cond (is_text s) (form.Word p None) (cond (is_array s) (form.UnionOf p) (form.Wrong (fault NotASchema p)))
unfolding form_by
by_other nested t p Text e = refl
by_other nested t p Number e = refl
by_other nested t p Object e = never (sym e)
by_other nested t p Array e = refl
by_other nested t p Word e = refl
by_other nested t p Nothing e = refl

other_object : (p : ℕ) (a b : Bool) → object_of (cond a (form.Word p None) (cond b (form.UnionOf p) (form.Wrong (fault NotASchema p)))) ≡ None
other_object p true b = refl
other_object p false true = refl
other_object p false false = refl

-- a form that goes by no object has no members, and one that goes by an object its
found_none : (t : List ℕ) (f : Form) → object_of f ≡ None → found f no_members ≡ found_of t f
unfolding found_of
found_none t f e = ap (λ (s : Option ℕ). found f (on_spot s (members_of t) no_members)) (sym e)

found_some : (t : List ℕ) (f : Form) (p : ℕ) → object_of f ≡ Some p → found f (members_of t p) ≡ found_of t f
unfolding found_of
found_some t f p e = ap (λ (s : Option ℕ). found f (on_spot s (members_of t) no_members)) (sym e)

-- an object goes by itself, whatever its `type`
pub object_own : (w : List ℕ) (p q : ℕ) → object_of (object_form w p q) ≡ Some p
unfolding object_form
object_own w p q =
    go (same w (ascii "record")) (same w (ascii "enum")) (same w (ascii "fixed")) (same w (ascii "array")) (same w (ascii "map"))
  where
    go : (a b c d e : Bool)
        → object_of
        (cond a (form.RecordOf p) (cond b (form.EnumOf p) (cond c (form.FixedOf p) (cond d (form.ArrayOf p) (cond e (form.MapOf p) (form.Word q (Some p)))))))
        ≡ Some p
    go true b c d e = refl
    go false true c d e = refl
    go false false true d e = refl
    go false false false true e = refl
    go false false false false true = refl
    go false false false false false = refl

within_more : (n : ℕ) (t : List ℕ) (p : ℕ) → 0 < n → form_within n t p ≡ form_by (form_within (n - 1) t) t p (shape_at t p)
unfolding form_within
within_more zero t p h = absurd (omega arith)
within_more (suc n) t p h = let e : suc n - 1 ≡ n = omega arith in rw e

-- ---- the loop: the form of the schema that is left to look at is the whole one's

module _ (t : List ℕ) (n p : ℕ) {x : Form} (inv : form_within n t p ≡ x) where
  pub find_out : n ≤ 0 → {r : Found} → r ≡ found (form.Wrong (fault NestedTooDeep p)) no_members → r ≡ found_of t x
  unfolding form_within
  find_out h e =
      let z : n ≡ 0 = omega arith in
      let y : form.Wrong (fault NestedTooDeep p) ≡ x = rw z at inv in
      e ∙ found_none t (form.Wrong (fault NestedTooDeep p)) refl ∙ ap (found_of t) y

  module _ (h : 0 < n) {b : Bool} (f : b ≡ is_object (shape_at t p)) where
    pub find_other : b ≡ false → {r : Found}
        → r ≡ found (cond (is_text (shape_at t p)) (form.Word p None) (cond (is_array (shape_at t p)) (form.UnionOf p) (form.Wrong (fault NotASchema p)))) no_members
        → r ≡ found_of t x
    find_other g e =
        e ∙ found_none t _ (other_object p (is_text (shape_at t p)) (is_array (shape_at t p)))
        ∙ ap (found_of t) (sym (by_other (form_within (n - 1) t) t p (shape_at t p) (sym f ∙ g)) ∙ sym (within_more n t p h) ∙ inv)

    module _ (g : b ≡ true) {m : Members} (k : m ≡ members_of t p) where
      by_members : form_by (form_within (n - 1) t) t p Object ≡ x
      by_members = ap (form_by (form_within (n - 1) t) t p) (sym (object_is (shape_at t p) (sym f ∙ g))) ∙ sym (within_more n t p h) ∙ inv

      typed : {s : Option ℕ} → m.typed ≡ s
          → on_spot s (λ q. cond (is_text (shape_at t q)) (object_form (string_at t q) p q) (form_within (n - 1) t q)) (form.Wrong (fault TypeMissing p)) ≡ x
      unfolding form_by
      typed e =
          ap (λ (s : Option ℕ). on_spot s (λ q. cond (is_text (shape_at t q)) (object_form (string_at t q) p q) (form_within (n - 1) t q)) (form.Wrong (fault TypeMissing p)))
          (sym e ∙ ap (λ (m : Members). m.typed) k)
          ∙ by_members

      pub find_missing : m.typed ≡ None → {r : Found} → r ≡ found (form.Wrong (fault TypeMissing p)) no_members → r ≡ found_of t x
      find_missing e i = i ∙ found_none t (form.Wrong (fault TypeMissing p)) refl ∙ ap (found_of t) (typed e)

      module _ {q : ℕ} (e : m.typed ≡ Some q) {d : Bool} (i : d ≡ is_text (shape_at t q)) where
        pub find_object : d ≡ true → {o : Form} → o ≡ object_form (string_at t q) p q → found o m ≡ found_of t x
        find_object j u =
            let y : object_form (string_at t q) p q ≡ x = rw (← i, j) at (typed e) in
            ap (λ (o : Form). found o m) u
            ∙ ap (found (object_form (string_at t q) p q)) k
            ∙ found_some t (object_form (string_at t q) p q) p (object_own (string_at t q) p q)
            ∙ ap (found_of t) y

        pub find_nested : d ≡ false → form_within (n - 1) t q ≡ x
        find_nested j = rw (← i, j) at (typed e)

-- ---- a form that was found, and the members with it

module _ (t : List ℕ) (p : ℕ) {x : Found} (e : x ≡ found_of t (form_of t p)) where
  pub found_form : {f : Form} → x.form ≡ f → form_of t p ≡ f
  unfolding found_of
  found_form g = sym (ap (λ (y : Found). y.form) e) ∙ g

  pub found_members : {f : Form} → x.form ≡ f → x.members ≡ (found_of t f).members
  found_members g = ap (λ (y : Found). y.members) (e ∙ ap (found_of t) (found_form g))
