-- What the code does, by the table: the turns of the loop that looks for a mark, and the store of one.
-- Assumes nothing.
use mathlib.Core.Path.{◌≡◌, ap, ◌∙◌}
use mathlib.Core.Bool.{true, false}
use mathlib.Core.List.{List}
use Prim.Native.Nat.{ℕ, suc, ◌-◌, ◌/◌, ◌%◌, ◌<◌, ◌≤◌}
use native.Mathlib.Omega.{arith}
use lib.ListN.{length, get_or, set}
use borrow.Author.Tests.{eq-eqb, ne_eqb}
use Rattle.std.specs.Prelude.{Option, Some, None}
use Rattle.seen.specs.Seen.{span, place_in, next_of, from, free_place, is_marked, entered}

pub found_zero : (t : List ℕ) (m : ℕ) → m ≡ 0 → None ≡ free_place t m
unfolding free_place
found_zero t m e = rw (eq-eqb m 0 e)

-- what is found from a place on is what is found
pub found_start : (t : List ℕ) (m : ℕ) → (m ≡ 0 → ⊥) → from t m (length t) (m / span % span) ≡ free_place t m
unfolding free_place
found_start t m n = rw (ne_eqb m 0 n)

module _ (t : List ℕ) (m left x : ℕ) {y : Option ℕ} (inv : from t m left x ≡ y) where
  pub found_end : left ≤ 0 → None ≡ y
  unfolding from
  found_end n = let e : left ≡ 0 = omega arith in rw e at inv

  module _ (l : 0 < left) {at : ℕ} (p : at ≡ place_in (length t) x) where
    here : from t m (suc (left - 1)) x ≡ y
    here = let e : suc (left - 1) ≡ left = omega arith in ap (λ (k : ℕ). from t m k x) e ∙ inv

    pub found_mark : get_or t at 0 ≡ m → None ≡ y
    unfolding from
    found_mark f = rw (← p, eq-eqb (get_or t at 0) m f) at here

    module _ (n : get_or t at 0 ≡ m → ⊥) where
      pub found_free : get_or t at 0 ≡ 0 → Some at ≡ y
      unfolding from
      found_free f = rw (← p, ne_eqb (get_or t at 0) m n, eq-eqb (get_or t at 0) 0 f) at here

      pub found_on : (get_or t at 0 ≡ 0 → ⊥) → {z : ℕ} → z ≡ next_of (length t) m x → {k : ℕ} → k ≡ left - 1 → from t m k z ≡ y
      unfolding from
      found_on f g h = rw (g, h) (rw (← p, ne_eqb (get_or t at 0) m n, ne_eqb (get_or t at 0) 0 f) at here)

module _ (t : List ℕ) (m : ℕ) {f : Option ℕ} (e : f ≡ free_place t m) where
  pub enter_marked : f ≡ None → (true ≡ is_marked t m) × (t ≡ entered t m)
  unfolding is_marked entered
  enter_marked g = (rw (← e, g), rw (← e, g))

  pub enter_free : {i : ℕ} → f ≡ Some i → (false ≡ is_marked t m) × (set t i m ≡ entered t m)
  unfolding is_marked entered
  enter_free g = (rw (← e, g), rw (← e, g))
