-- Words by their length: those of another length need not be compared with.
-- Assumes nothing.
use Rattle.std.specs.Prelude.{Some}
use mathlib.Core.Path.{◌≡◌}
use mathlib.Core.Bool.{false, cond}
use mathlib.Core.List.{List}
use Prim.Native.Nat.{ℕ, ◌<◌, ◌≤◌}
use native.Mathlib.Omega.{arith}
use lib.ListN.{length}
use Rattle.ground.specs.Ascii.{ascii}
use Rattle.ground.specs.Bytes.{same}
use Rattle.ground.proofs.Laws.{same_unlike}
use Rattle.row.specs.declared.kind.Kind.TheVariants.{Null, Boolean, Int, Long, Float, Double, Bytes, String, Reference}
use Rattle.form.specs.declared.forms.Form.TheVariants as form
use Rattle.form.specs.Forms.{word_kind, object_form}

module _ (w : List ℕ) where
  no_three : (length w ≡ 3 → ⊥) → same w (ascii "int") ≡ false
  no_three h = same_unlike w (ascii "int") h

  no_four : (length w ≡ 4 → ⊥) → (same w (ascii "null") ≡ false) × (same w (ascii "long") ≡ false)
  no_four h = (same_unlike w (ascii "null") h, same_unlike w (ascii "long") h)

  no_five : (length w ≡ 5 → ⊥) → (same w (ascii "float") ≡ false) × (same w (ascii "bytes") ≡ false)
  no_five h = (same_unlike w (ascii "float") h, same_unlike w (ascii "bytes") h)

  no_six : (length w ≡ 6 → ⊥) → (same w (ascii "double") ≡ false) × (same w (ascii "string") ≡ false)
  no_six h = (same_unlike w (ascii "double") h, same_unlike w (ascii "string") h)

  no_seven : (length w ≡ 7 → ⊥) → same w (ascii "boolean") ≡ false
  no_seven h = same_unlike w (ascii "boolean") h

  pub kind_of_four : length w ≡ 4 → word_kind w ≡ cond (same w (ascii "null")) Null (cond (same w (ascii "long")) Long Reference)
  unfolding word_kind
  kind_of_four h =
      let a = no_three (λ e. omega arith) in
      let b = no_five (λ e. omega arith) in
      let c = no_six (λ e. omega arith) in
      let d = no_seven (λ e. omega arith) in
      rw (d, a, b.0, c.0, b.1, c.1)

  pub kind_of_five : length w ≡ 5 → word_kind w ≡ cond (same w (ascii "float")) Float (cond (same w (ascii "bytes")) Bytes Reference)
  unfolding word_kind
  kind_of_five h =
      let a = no_three (λ e. omega arith) in
      let b = no_four (λ e. omega arith) in
      let c = no_six (λ e. omega arith) in
      let d = no_seven (λ e. omega arith) in
      rw (b.0, d, a, b.1, c.0, c.1)

  pub kind_of_six : length w ≡ 6 → word_kind w ≡ cond (same w (ascii "double")) Double (cond (same w (ascii "string")) String Reference)
  unfolding word_kind
  kind_of_six h =
      let a = no_three (λ e. omega arith) in
      let b = no_four (λ e. omega arith) in
      let c = no_five (λ e. omega arith) in
      let d = no_seven (λ e. omega arith) in
      rw (b.0, d, a, b.1, c.0, c.1)

  -- the others are of different lengths
  pub kind_of_others : (length w ≡ 4 → ⊥) → (length w ≡ 5 → ⊥) → (length w ≡ 6 → ⊥)
      → word_kind w ≡ cond (same w (ascii "boolean")) Boolean (cond (same w (ascii "int")) Int Reference)
  unfolding word_kind
  kind_of_others h k l =
      let a = no_four h in
      let b = no_five k in
      let c = no_six l in
      rw (a.0, a.1, b.0, c.0, b.1, c.1)

  -- a long one is none of them
  pub kind_of_long : 16 < length w → word_kind w ≡ Reference
  kind_of_long h =
      let a = no_three (λ e. omega arith) in
      let b = no_seven (λ e. omega arith) in
      rw (kind_of_others (λ e. omega arith) (λ e. omega arith) (λ e. omega arith), b, a)

  no_long : 16 < length w → (x : List ℕ) → length x ≤ 16 → same w x ≡ false
  no_long h x k = same_unlike w x (λ e. omega arith)

  pub form_of_long : (p q : ℕ) → 16 < length w → object_form w p q ≡ form.Word q (Some p)
  unfolding object_form
  form_of_long p q h =
      let a = no_long h (ascii "record") (omega arith) in
      let b = no_long h (ascii "enum") (omega arith) in
      let c = no_long h (ascii "fixed") (omega arith) in
      let d = no_long h (ascii "array") (omega arith) in
      let e = no_long h (ascii "map") (omega arith) in
      rw (a, b, c, d, e)
