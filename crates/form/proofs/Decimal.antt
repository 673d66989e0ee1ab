-- A decimal's note: one law for each way out of the code.
-- Assumes nothing.
use Rattle.std.specs.Prelude.{Option, Some, None}
use mathlib.Core.Path.{◌≡◌, sym, ap, ◌∙◌}
use mathlib.Core.Bool.{Bool, true, false, cond}
use mathlib.Core.List.{List}
use Prim.Native.Nat.{ℕ}
use lib.Dec.{ltb}
use Rattle.ground.specs.Ascii.{ascii}
use Rattle.ground.specs.Bytes.{same}
use Rattle.decimals.specs.Limits.{limit_of}
use Rattle.view.specs.Strings.{string_at}
use Rattle.view.specs.Size.{size_of}
use Rattle.view.specs.declared.members.Members.{Members}
use Rattle.form.specs.declared.note.Note.{Note}
use Rattle.form.specs.declared.note.Plain.{Plain}
use Rattle.form.specs.declared.note.Plain.TheVariants.{Bytes, Fixed}
use Rattle.form.specs.Spots.{on_spot, as_text}
use Rattle.form.specs.Notes.{noted, exceeds, compared, with_scale, with_precision, is_decimal, note_of}

-- a size literal's value, where a place has one
module _ (t : List ℕ) (f : ℕ → Note) (other missing : Note) where
  abbrev by : Option ℕ → Note
  by s = on_spot s (λ q. on_spot (size_of t q) f other) missing

  by_none : {s : Option ℕ} → s ≡ None → missing ≡ by s
  by_none e = ap by (sym e)

  module _ {s : Option ℕ} {p : ℕ} (e : s ≡ Some p) {z : Option ℕ} (g : z ≡ size_of t p) where
    by_value : {v : ℕ} → z ≡ Some v → f v ≡ by s
    by_value h = ap (λ (z : Option ℕ). on_spot z f other) (sym h ∙ g) ∙ ap by (sym e)

    by_other : z ≡ None → other ≡ by s
    by_other h = ap (λ (z : Option ℕ). on_spot z f other) (sym h ∙ g) ∙ ap by (sym e)

-- what the plain type allows
pub exceeds_bytes : {plain : Plain} (precision : ℕ) → plain ≡ Bytes → false ≡ exceeds plain precision
unfolding exceeds
exceeds_bytes precision e = ap (λ (x : Plain). exceeds x precision) (sym e)

pub exceeds_fixed : {plain : Plain} {size : ℕ} (precision : ℕ) {n : ℕ} → plain ≡ Fixed size → n ≡ limit_of size → ltb n precision ≡ exceeds plain precision
unfolding exceeds
exceeds_fixed precision e h = ap (λ (x : ℕ). ltb x precision) h ∙ ap (λ (x : Plain). exceeds x precision) (sym e)

module _ (t : List ℕ) (m : Members) where
  module _ {s : Option ℕ} (e : s ≡ as_text t m.logical_type) where
    pub plain_type : s ≡ None → false ≡ is_decimal t m
    unfolding is_decimal
    plain_type h = ap (λ (s : Option ℕ). on_spot s (λ q. same (string_at t q) (ascii "decimal")) false) (sym h ∙ e)

    pub logical_type_lem : {p : ℕ} → s ≡ Some p → {b : Bool} → b ≡ same (string_at t p) (ascii "decimal") → b ≡ is_decimal t m
    unfolding is_decimal
    logical_type_lem h i = i ∙ ap (λ (s : Option ℕ). on_spot s (λ q. same (string_at t q) (ascii "decimal")) false) (sym h ∙ e)

module _ (t : List ℕ) (m : Members) (plain : Plain) where
  module _ (precision : ℕ) where
    pub scale_none : m.scale ≡ None → {r : Note} → r ≡ compared plain precision 0 → r ≡ with_scale t m plain precision
    unfolding with_scale
    scale_none e h = h ∙ by_none t (compared plain precision) (noted 4) (compared plain precision 0) e

    module _ {p : ℕ} (e : m.scale ≡ Some p) {z : Option ℕ} (g : z ≡ size_of t p) where
      pub scale_value : {v : ℕ} → z ≡ Some v → {r : Note} → r ≡ compared plain precision v → r ≡ with_scale t m plain precision
      unfolding with_scale
      scale_value i h = h ∙ by_value t (compared plain precision) (noted 4) (compared plain precision 0) e g i

      pub scale_other : z ≡ None → {r : Note} → r ≡ noted 4 → r ≡ with_scale t m plain precision
      unfolding with_scale
      scale_other i h = h ∙ by_other t (compared plain precision) (noted 4) (compared plain precision 0) e g i

  pub precision_none : m.precision ≡ None → {r : Note} → r ≡ noted 2 → r ≡ with_precision t m plain
  unfolding with_precision
  precision_none e h = h ∙ by_none t (with_scale t m plain) (noted 3) (noted 2) e

  module _ {p : ℕ} (e : m.precision ≡ Some p) {z : Option ℕ} (g : z ≡ size_of t p) where
    pub precision_value : {v : ℕ} → z ≡ Some v → {r : Note} → r ≡ with_scale t m plain v → r ≡ with_precision t m plain
    unfolding with_precision
    precision_value i h = h ∙ by_value t (with_scale t m plain) (noted 3) (noted 2) e g i

    pub precision_other : z ≡ None → {r : Note} → r ≡ noted 3 → r ≡ with_precision t m plain
    unfolding with_precision
    precision_other i h = h ∙ by_other t (with_scale t m plain) (noted 3) (noted 2) e g i

  module _ {b : Bool} (e : b ≡ is_decimal t m) where
    pub note_decimal : b ≡ true → {r : Note} → r ≡ with_precision t m plain → r ≡ note_of t m plain
    unfolding note_of
    note_decimal f h = h ∙ ap (λ (b : Bool). cond b (with_precision t m plain) (noted 0)) (sym f ∙ e)

    pub note_plain : b ≡ false → {r : Note} → r ≡ noted 0 → r ≡ note_of t m plain
    unfolding note_of
    note_plain f h = h ∙ ap (λ (b : Bool). cond b (with_precision t m plain) (noted 0)) (sym f ∙ e)
