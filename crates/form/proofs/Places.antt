-- What a declaration takes a place for: one law for each way out of the code, and the turns of its loop.
-- Assumes nothing.
use Rattle.std.specs.Prelude.{Option, Some, None}
use mathlib.Core.Path.{◌≡◌, refl, sym, ap, ◌∙◌}
use mathlib.Core.Bool.{Bool, true, false, ◌&&◌}
use mathlib.Core.List.{List}
use Prim.Native.Nat.{ℕ, ◌<◌}
use native.Mathlib.Omega.{arith}
use lib.ListN.{length}
use Rattle.view.specs.Values.{shape_at}
use Rattle.view.specs.Elements.{first_element, next_element, elements_at, elements}
use Rattle.view.proofs.Laws.{left_start, left_done, left_next}
use Rattle.form.specs.Spots.{is_text, as_array, all_texts, aliases_in}

-- ---- a loop over an array's elements: what is left falls

pub visit_less : (t : List ℕ) {s s' : Option ℕ} {p : ℕ} → s ≡ Some p → s' ≡ next_element t p → length (elements_at t s') < length (elements_at t s)
visit_less t e f = let z = ap length (left_next t e f) in omega arith

-- ---- strings only

module _ (t : List ℕ) {s : Option ℕ} {x : Bool} (inv : all_texts t (elements_at t s) ≡ x) where
  pub texts_done : s ≡ None → true ≡ x
  unfolding all_texts
  texts_done e = sym (ap (all_texts t) (left_done t e)) ∙ inv

  module _ {p : ℕ} {b : Bool} (e : s ≡ Some p) (f : b ≡ is_text (shape_at t p)) where
    texts_left : (b && all_texts t (elements_at t (next_element t p))) ≡ x
    unfolding all_texts
    texts_left = rw f (sym (ap (all_texts t) (left_next t e refl)) ∙ inv)

    pub texts_not : b ≡ false → false ≡ x
    texts_not g = rw g at texts_left

    pub texts_turn : b ≡ true → {s' : Option ℕ} → s' ≡ next_element t p → all_texts t (elements_at t s') ≡ x
    texts_turn g h = rw (g, ← h) at texts_left

-- ---- the strings of `aliases`

module _ (t : List ℕ) (s : Option ℕ) {a : Option ℕ} (e : a ≡ as_array t s) where
  pub aliases_none : a ≡ None → elements_at t None ≡ aliases_in t s
  unfolding aliases_in
  aliases_none f = rw (← e, f) (left_done t refl)

  module _ {p : ℕ} {b : Bool} (f : a ≡ Some p) (g : b ≡ all_texts t (elements t p)) where
    pub aliases_here : b ≡ true → {r : Option ℕ} → r ≡ first_element t p → elements_at t r ≡ aliases_in t s
    unfolding aliases_in
    aliases_here h i = rw (← e, f, ← g, h) (left_start t p i)

    pub aliases_other : b ≡ false → elements_at t None ≡ aliases_in t s
    unfolding aliases_in
    aliases_other h = rw (← e, f, ← g, h) (left_done t refl)
