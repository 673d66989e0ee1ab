-- What the library's methods give, in the words of the contracts; and the turn of the loop over bytes that are to be 0.
-- Assumes nothing.
use mathlib.Core.Path.{◌≡◌, refl, sym, ap, ◌∙◌}
use mathlib.Core.Bool.{Bool, true, false, ◌&&◌, and-true, and_assoc}
use mathlib.Core.List.{List}
use Prim.Native.Nat.{ℕ, suc, ◌+◌, ◌-◌, ◌<◌, ◌≤◌, max, min}
use native.Mathlib.Numerals.{add-one}
use native.Mathlib.Decide.{dec_le}
use native.Mathlib.Omega.{arith}
use lib.ListN.{length, drop, get_or, set, drop_of_length-le}
use lib.Seq.{drop-cons}
use lib.Dec.{eqb}
use borrow.Author.Tests.{eq-eqb, ne_eqb}
use Rattle.std.specs.Prelude.{MatchBool, ◌≢◌}
use Rattle.std.proofs.lemmas.Grind.{same_number_lists}
use Rattle.ground.specs.Bytes.{same, all_zero, store}
use Rattle.ground.proofs.Laws.{same_refl, same_true, store_cons, store_none, store_past}

-- strings of one length are the same where all bytes are, and are not where one differs
pub same_told : (a b : List ℕ) (r : Bool) → length a ≡ length b → MatchBool r ((k : ℕ) → k < length a → get_or a k 0 ≡ get_or b k 0) ((k : ℕ) × (k < length a) × (get_or a k 0 ≢ get_or b k 0)) → r ≡ same a b
same_told a b true e h = sym (ap (same a) (sym (same_number_lists a b e h)) ∙ same_refl a)
same_told a b false e h = go (same a b) refl
  where
    go : (x : Bool) → same a b ≡ x → false ≡ x
    go false f = refl
    go true f = absurd (h.2 (ap (λ (l : List ℕ). get_or l h.0 0) (same_true a b f)))

-- the larger of two is 0 where both are
both_zero : (a b : ℕ) → eqb (max a b) 0 ≡ (eqb a 0 && eqb b 0)
both_zero a b = go (dec_le a 0) (dec_le b 0)
  where
    go : Dec (a ≤ 0) → Dec (b ≤ 0) → eqb (max a b) 0 ≡ (eqb a 0 && eqb b 0)
    go (yes p) (yes q) = rw (eq-eqb a 0 (omega arith), eq-eqb b 0 (omega arith)) (eq-eqb (max a b) 0 (omega arith))
    go (yes p) (no q) = rw (eq-eqb a 0 (omega arith), ne_eqb b 0 (λ (e : b ≡ 0). q (omega arith))) (ne_eqb (max a b) 0 (λ (e : max a b ≡ 0). q (omega arith)))
    go (no p) q = rw (ne_eqb a 0 (λ (e : a ≡ 0). p (omega arith))) (ne_eqb (max a b) 0 (λ (e : max a b ≡ 0). p (omega arith)))

module _ (s : List ℕ) (i most : ℕ) (t : Bool) (inv : t ≡ (eqb most 0 && all_zero (drop i s))) where
  pub zero_turn : (more : ℕ) → i < length s → more ≡ max most (get_or s i 0) → t ≡ (eqb more 0 && all_zero (drop (i + 1) s))
  unfolding all_zero
  zero_turn more l e = inv ∙ rw (drop-cons s i 0 l, add-one, e, both_zero most (get_or s i 0)) (sym (and_assoc (eqb most 0) (eqb (get_or s i 0) 0) (all_zero (drop (suc i) s))))

  pub zero_end : length s ≤ i → eqb most 0 ≡ t
  unfolding all_zero
  zero_end l = sym (inv ∙ rw (drop_of_length-le s l) (and-true (eqb most 0)))

module _ (to x bs : List ℕ) (at i : ℕ) (inv : store to (at + i) (drop i bs) ≡ x) where
  pub copy_turn : i < length bs → store (set to (at + i) (get_or bs i 0)) (at + (i + 1)) (drop (i + 1) bs) ≡ x
  copy_turn l =
      let e : at + (i + 1) ≡ at + i + 1 = omega arith in
      rw e (sym (store_cons to (at + i) (get_or bs i 0) (drop (i + 1) bs)) ∙ ap (store to (at + i)) (sym (rw add-one (drop-cons bs i 0 l))) ∙ inv)

  -- either all is stored, or there is no room for more
  pub copy_end : min (length bs) (length to - at) ≤ i → to ≡ x
  copy_end l = go (dec_le (length bs) i)
    where
      go : Dec (length bs ≤ i) → to ≡ x
      go (yes p) = sym (ap (store to (at + i)) (drop_of_length-le bs p) ∙ store_none to (at + i)) ∙ inv
      go (no p) = sym (store_past to (at + i) (drop i bs) (omega arith)) ∙ inv
