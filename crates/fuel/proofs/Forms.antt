-- Two readers that agree on every schema one bracket further in give the same form of a schema, and its object or bracket stands no less deep.
-- Assumes nothing.
use Rattle.std.specs.Prelude.{Option, Some, None}
use mathlib.Core.Path.{◌≡◌, refl, ap}
use mathlib.Core.Bool.{Bool, true, false, cond}
use mathlib.Core.List.{List}
use Prim.Native.Nat.{ℕ, zero, suc}
use Rattle.answer.specs.declared.refusal.Why.TheVariants.{TypeMissing}
use Rattle.ground.specs.Ascii.{ascii}
use Rattle.ground.specs.Bytes.{byte_at, same}
use Rattle.view.specs.declared.shape.Shape.{Shape}
use Rattle.view.specs.declared.shape.Shape.TheVariants.{Text, Number, Object, Array, Word, Nothing}
use Rattle.view.specs.Values.{shape_at}
use Rattle.view.specs.Strings.{string_at}
use Rattle.view.specs.Members.{type_key, fields_key, default_key, items_key, values_key, members_of}
use Rattle.form.specs.declared.forms.Form.{Form}
use Rattle.form.specs.declared.forms.Form.TheVariants as form
use Rattle.form.specs.Checks.{fault}
use Rattle.form.specs.Spots.{on_spot, is_text, is_object, is_array, as_array}
use Rattle.form.specs.Forms.{object_form, form_by, form_within}
use Rattle.fuel.proofs.Deep.{Deep, Opens, array_byte, object_byte, as_array_lem, deep_less, deep_member}

pub spot_same : {A : Type 0} (s : Option ℕ) {f g : ℕ → A} (x : A) → ((q : ℕ) → s ≡ Some q → f q ≡ g q) → on_spot s f x ≡ on_spot s g x
spot_same (Some q) x h = h q refl
spot_same None x h = refl

module _ (t : List ℕ) where
  -- ---- the members of an object

  pub typed_deep : (n p : ℕ) → Opens t n 123 p → (q : ℕ) → (members_of t p).typed ≡ Some q → Deep t (suc n) q
  unfolding members_of
  typed_deep n p o q e = deep_member t n p o type_key q e

  pub default_at_lem : (n p : ℕ) → Opens t n 123 p → (q : ℕ) → (members_of t p).default ≡ Some q → Deep t (suc n) q
  unfolding members_of
  default_at_lem n p o q e = deep_member t n p o default_key q e

  pub items_at : (n p : ℕ) → Opens t n 123 p → (q : ℕ) → (members_of t p).items ≡ Some q → Deep t (suc n) q
  unfolding members_of
  items_at n p o q e = deep_member t n p o items_key q e

  pub values_at : (n p : ℕ) → Opens t n 123 p → (q : ℕ) → (members_of t p).values ≡ Some q → Deep t (suc n) q
  unfolding members_of
  values_at n p o q e = deep_member t n p o values_key q e

  pub fields_at : (n p : ℕ) → Opens t n 123 p → (v : ℕ) → as_array t (members_of t p).fields ≡ Some v → Opens t (suc n) 91 v
  unfolding members_of
  fields_at n p o v e = let i = as_array_lem t (members_of t p).fields v e in record { deep = deep_member t n p o fields_key v i.0; byte = i.1 }

  -- ---- values that open with a bracket

  opens_array : (n p : ℕ) → Deep t n p → shape_at t p ≡ Array → Opens t n 91 p
  opens_array n p d e = record { deep = d; byte = array_byte (byte_at t p) (ap is_array e) }

  opens_object : (n p : ℕ) → Deep t n p → shape_at t p ≡ Object → Opens t n 123 p
  opens_object n p d e = record { deep = d; byte = object_byte (byte_at t p) (ap is_object e) }

  -- ---- two readers

  by_same : {f g : ℕ → Form} (p : ℕ) (s : Shape) → (s ≡ Object → (q : ℕ) → (members_of t p).typed ≡ Some q → f q ≡ g q) → form_by f t p s ≡ form_by g t p s
  unfolding form_by
  by_same p Text h = refl
  by_same p Number h = refl
  by_same p Object h =
      spot_same (members_of t p).typed (form.Wrong (fault TypeMissing p))
      (λ q e. ap (λ (x : Form). cond (is_text (shape_at t q)) (object_form (string_at t q) p q) x) (h refl q e))
  by_same p Array h = refl
  by_same p Word h = refl
  by_same p Nothing h = refl

  pub form_same : (m p : ℕ) {f g : ℕ → Form} → ((q : ℕ) → Deep t (suc m) q → f q ≡ g q) → Deep t m p → form_by f t p (shape_at t p) ≡ form_by g t p (shape_at t p)
  form_same m p {f} {g} h d = by_same {f = f} {g = g} p (shape_at t p) (λ e q i. h q (typed_deep m p (opens_object m p d e) q i))

  -- ---- where a form stands

  module _ (m : ℕ) where
    -- an object's at its brace, a union at its bracket
    abbrev pub Stands : Form → Type 0
    Stands (form.Word q o) = Unit {0}
    Stands (form.ArrayOf p) = Opens t m 123 p
    Stands (form.MapOf p) = Opens t m 123 p
    Stands (form.UnionOf p) = Opens t m 91 p
    Stands (form.RecordOf p) = Opens t m 123 p
    Stands (form.EnumOf p) = Opens t m 123 p
    Stands (form.FixedOf p) = Opens t m 123 p
    Stands (form.Wrong f) = Unit {0}

    object_stands : (w : List ℕ) (p q : ℕ) → Opens t m 123 p → Stands (object_form w p q)
    unfolding object_form
    object_stands w p q o =
        go1 (same w (ascii "record")) (same w (ascii "enum")) (same w (ascii "fixed")) (same w (ascii "array")) (same w (ascii "map"))
      where
        go1 : (a b c d e : Bool)
            → Stands (cond a (form.RecordOf p) (cond b (form.EnumOf p) (cond c (form.FixedOf p) (cond d (form.ArrayOf p) (cond e (form.MapOf p) (form.Word q (Some p)))))))
        go1 true b c d e = o
        go1 false true c d e = o
        go1 false false true d e = o
        go1 false false false true e = o
        go1 false false false false true = o
        go1 false false false false false = tt

    by_stands : (f : ℕ → Form) (p : ℕ) (s : Shape) → Deep t m p → shape_at t p ≡ s → ((q : ℕ) → Deep t m q → Stands (f q)) → Stands (form_by f t p s)
    unfolding form_by
    by_stands f p Text d e h = tt
    by_stands f p Number d e h = tt
    by_stands f p Array d e h = opens_array m p d e
    by_stands f p Word d e h = tt
    by_stands f p Nothing d e h = tt
    by_stands f p Object d e h = go1 (members_of t p).typed (typed_deep m p (opens_object m p d e))
      where
        go2 : (b : Bool) (q : ℕ) → Deep t (suc m) q → Stands (cond b (object_form (string_at t q) p q) (f q))
        go2 true q i = object_stands (string_at t q) p q (opens_object m p d e)
        go2 false q i = h q (deep_less i)

        go1 : (s : Option ℕ) → ((q : ℕ) → s ≡ Some q → Deep t (suc m) q)
            → Stands (on_spot s (λ q. cond (is_text (shape_at t q)) (object_form (string_at t q) p q) (f q)) (form.Wrong (fault TypeMissing p)))
        go1 None g = tt
        go1 (Some q) g = go2 (is_text (shape_at t q)) q (g q refl)

    pub form_stands : (n p : ℕ) → Deep t m p → Stands (form_within n t p)
    unfolding form_within
    form_stands zero p d = tt
    form_stands (suc n) p d = by_stands (form_within n t) p (shape_at t p) d refl (λ q i. form_stands n q i)
