-- The elements that stand before a place: a loop that stops there visits them, and one that goes on has passed them.
-- Assumes nothing.
use Rattle.std.specs.Prelude.{Option, Some, None}
use mathlib.Core.Path.{◌≡◌, refl, sym, ap, subst, ◌∙◌}
use mathlib.Core.Bool.{Bool, true, false, ◌||◌}
use mathlib.Core.List.{List, [], ◌∷◌, ◌++◌, append_assoc}
use Prim.Native.Nat.{ℕ, ◌<◌}
use native.Mathlib.Omega.{arith}
use lib.ListN.{length}
use borrow.Author.Tests.{eq-eqb, ne_eqb}
use Rattle.view.specs.Ends.{end_of}
use Rattle.view.specs.Elements.{first_element, next_element, elements_at, elements}
use Rattle.view.proofs.Laws.{All, Inside, Ascending, end_ahead, elements_inside, elements_ascend, left_start, left_done, left_next}
use Rattle.rules.specs.Unions.{before}

-- ---- what stands before a place

before_none : (p : ℕ) → before p [] ≡ []
unfolding before
before_none p = refl

before_here : (p q : ℕ) (qs : List ℕ) → q ≡ p → before p (q ∷ qs) ≡ []
unfolding before
before_here p q qs e = rw (eq-eqb q p e)

before_other : (p q : ℕ) (qs : List ℕ) → (q ≡ p → ⊥) → before p (q ∷ qs) ≡ q ∷ before p qs
unfolding before
before_other p q qs n = rw (ne_eqb q p n)

all_seam : (P : ℕ → Type 0) (qs : List ℕ) (q : ℕ) (rest : List ℕ) → All P (qs ++ (q ∷ rest)) → P q
all_seam P [] q rest h = h.0
all_seam P (x ∷ qs) q rest h = all_seam P qs q rest h.1

before_seam : (t qs : List ℕ) (q : ℕ) (rest : List ℕ) → Ascending t (qs ++ (q ∷ rest)) → before q (qs ++ (q ∷ rest)) ≡ qs
before_seam t [] q rest h = before_here q q rest refl
before_seam t (x ∷ qs) q rest h =
    let a = all_seam (λ y. end_of t x < y) qs q rest h.0 in
    let b = end_ahead t x in
    before_other q x (qs ++ (q ∷ rest)) (λ (e : x ≡ q). omega arith) ∙ ap (λ (l : List ℕ). x ∷ l) (before_seam t qs q rest h.1)

before_all : (t : List ℕ) (p : ℕ) (qs : List ℕ) → All (Inside t p) qs → before (length t) qs ≡ qs
before_all t p [] h = before_none (length t)
before_all t p (q ∷ qs) h =
    let a = h.0.within in
    before_other (length t) q qs (λ (e : q ≡ length t). omega arith) ∙ ap (λ (l : List ℕ). q ∷ l) (before_all t p qs h.1)

-- all elements stand before the text's end
pub before_end : (t : List ℕ) (p : ℕ) → before (length t) (elements t p) ≡ elements t p
before_end t p = before_all t p (elements t p) (elements_inside t p)

-- ---- a loop that has passed the elements qs of the array at p

pub record Passed (t : List ℕ) (p : ℕ) (s : Option ℕ) (qs : List ℕ) : Type 0 where
  pub split : elements t p ≡ qs ++ elements_at t s

pub passed_start : (t : List ℕ) (p : ℕ) {s : Option ℕ} → s ≡ first_element t p → Passed t p s []
passed_start t p e = record { split = sym (left_start t p e) }

module _ {t : List ℕ} {p : ℕ} {s : Option ℕ} {qs : List ℕ} (h : Passed t p s qs) {q : ℕ} (e : s ≡ Some q) where
  passed_here : {s' : Option ℕ} → s' ≡ next_element t q → elements t p ≡ qs ++ (q ∷ elements_at t s')
  passed_here f = h.split ∙ ap (λ (l : List ℕ). qs ++ l) (left_next t e f)

  pub passed_next : {s' : Option ℕ} → s' ≡ next_element t q → Passed t p s' (qs ++ (q ∷ []))
  passed_next {s'} f = record { split = passed_here f ∙ sym (append_assoc qs (q ∷ []) (elements_at t s')) }

  pub passed_before : before q (elements t p) ≡ qs
  passed_before =
      let z = passed_here refl in
      ap (before q) z ∙ before_seam t qs q (elements_at t (next_element t q)) (subst (λ (l : List ℕ). Ascending t l) z (elements_ascend t p))

-- ---- does a test hold at one of some places?

unfoldable pub some : (ℕ → Bool) → List ℕ → Bool
some k [] = false
some k (p ∷ ps) = k p || some k ps

module _ (k : ℕ → Bool) {x : Bool} where
  some_none : {l : List ℕ} → some k l ≡ x → l ≡ [] → false ≡ x
  unfolding some
  some_none inv e = sym (ap (some k) e) ∙ inv

  module _ {l l' : List ℕ} {p : ℕ} (inv : some k l ≡ x) (e : l ≡ p ∷ l') {b : Bool} (f : b ≡ k p) where
    some_step : (b || some k l') ≡ x
    unfolding some
    some_step = rw f (sym (ap (some k) e) ∙ inv)

    some_yes : b ≡ true → true ≡ x
    some_yes g = rw g at some_step

    some_on : b ≡ false → some k l' ≡ x
    some_on g = rw g at some_step

  -- a loop over all elements
  module _ (t : List ℕ) {s : Option ℕ} (inv : some k (elements_at t s) ≡ x) where
    pub all_done : s ≡ None → false ≡ x
    all_done e = some_none inv (left_done t e)

    module _ {p : ℕ} (e : s ≡ Some p) {b : Bool} (f : b ≡ k p) where
      pub all_yes : b ≡ true → true ≡ x
      all_yes g = some_yes inv (left_next t e refl) f g

      pub all_on : b ≡ false → {s' : Option ℕ} → s' ≡ next_element t p → some k (elements_at t s') ≡ x
      all_on g h = some_on inv (left_next t e h) f g

  -- a loop over those before a place
  module _ (t : List ℕ) (at : ℕ) {s : Option ℕ} (inv : some k (before at (elements_at t s)) ≡ x) where
    pub some_done : s ≡ None → false ≡ x
    some_done e = some_none inv (ap (before at) (left_done t e) ∙ before_none at)

    module _ {p : ℕ} (e : s ≡ Some p) where
      pub some_here : p ≡ at → false ≡ x
      some_here h = some_none inv (ap (before at) (left_next t e refl) ∙ before_here at p (elements_at t (next_element t p)) h)

      module _ (h : p ≡ at → ⊥) {b : Bool} (f : b ≡ k p) where
        step : {s' : Option ℕ} → s' ≡ next_element t p → before at (elements_at t s) ≡ p ∷ before at (elements_at t s')
        step {s'} g = ap (before at) (left_next t e g) ∙ before_other at p (elements_at t s') h

        pub some_found : b ≡ true → true ≡ x
        some_found g = some_yes inv (step refl) f g

        pub some_turn : b ≡ false → {s' : Option ℕ} → s' ≡ next_element t p → some k (before at (elements_at t s')) ≡ x
        some_turn g i = some_on inv (step i) f g
