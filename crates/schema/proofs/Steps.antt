-- Loops over places: what is read at those that are left.
-- Assumes nothing.
use Rattle.std.specs.Prelude.{Option, Some, None}
use mathlib.Core.Path.{◌≡◌, refl, sym, ap, ◌∙◌, subst}
use mathlib.Core.Bool.{Bool, true, false, cond}
use mathlib.Core.List.{List, [], ◌∷◌}
use Prim.Native.Nat.{ℕ, ◌<◌}
use lib.ListN.{length}
use Rattle.view.specs.Values.{shape_at}
use Rattle.view.specs.Elements.{first_element, next_element, elements_at, elements}
use Rattle.view.proofs.Laws.{All, Inside, elements_inside, left_start, left_done, left_next}
use Rattle.form.specs.Spots.{is_object, objects_among}
use Rattle.schema.specs.Out.{Out, read, and_then, each}
use Rattle.schema.proofs.Did.{none_then}

module _ (reads : ℕ → Out) where
  each_none : each reads [] ≡ read []
  unfolding each
  each_none = refl

  each_one : (p : ℕ) (ps : List ℕ) → each reads (p ∷ ps) ≡ and_then (reads p) (each reads ps)
  unfolding each
  each_one p ps = refl

  module _ (t : List ℕ) {s : Option ℕ} where
    pub each_done : s ≡ None → each reads (elements_at t s) ≡ read []
    each_done e = ap (each reads) (left_done t e) ∙ each_none

    pub each_next : {p : ℕ} {s' : Option ℕ} → s ≡ Some p → s' ≡ next_element t p → each reads (elements_at t s) ≡ and_then (reads p) (each reads (elements_at t s'))
    each_next {p} {s'} e f = ap (each reads) (left_next t e f) ∙ each_one p (elements_at t s')

    -- the objects alone
    pub objects_done : s ≡ None → each reads (objects_among t (elements_at t s)) ≡ read []
    unfolding objects_among
    objects_done e = ap (λ (l : List ℕ). each reads (objects_among t l)) (left_done t e) ∙ each_none

    pub objects_next : {p : ℕ} {s' : Option ℕ} → s ≡ Some p → s' ≡ next_element t p
        → each reads (objects_among t (elements_at t s)) ≡ and_then (cond (is_object (shape_at t p)) (reads p) (read [])) (each reads (objects_among t (elements_at t s')))
    unfolding objects_among
    objects_next {p} {s'} e f =
        ap (λ (l : List ℕ). each reads (objects_among t l)) (left_next t e f) ∙ go (is_object (shape_at t p)) (objects_among t (elements_at t s'))
      where
        go : (b : Bool) (l : List ℕ) → each reads (cond b (p ∷ l) l) ≡ and_then (cond b (reads p) (read [])) (each reads l)
        go true l = each_one p l
        go false l = none_then (each reads l)

-- all places that are left are within the text
abbrev pub AllWithin : List ℕ → Option ℕ → Type 0
AllWithin t s = All (λ q. q < length t) (elements_at t s)

wider : (t : List ℕ) (p : ℕ) (l : List ℕ) → All (Inside t p) l → All (λ q. q < length t) l
wider t p [] h = tt
wider t p (q ∷ l) h = (h.0.within, wider t p l h.1)

pub within_start : (t : List ℕ) (p : ℕ) {s : Option ℕ} → s ≡ first_element t p → AllWithin t s
within_start t p e = subst (All (λ q. q < length t)) (sym (left_start t p e)) (wider t p (elements t p) (elements_inside t p))

pub within_first : (t : List ℕ) {s : Option ℕ} {p : ℕ} → AllWithin t s → s ≡ Some p → p < length t
within_first t {s} {p} h e = (subst (All (λ q. q < length t)) (left_next t e refl) h).0

pub within_next : (t : List ℕ) {s s' : Option ℕ} {p : ℕ} → AllWithin t s → s ≡ Some p → s' ≡ next_element t p → AllWithin t s'
within_next t h e f = (subst (All (λ q. q < length t)) (left_next t e f) h).1
