-- Laws of the function: what it does at a place, and when two rules break at one place.
-- Assumes nothing.
use mathlib.Core.Path.{◌≡◌, refl, sym, ap, ◌∙◌}
use mathlib.Core.Bool.{Bool, true, false, not, cond, ◌&&◌, and-false}
use mathlib.Core.List.{List, [], ◌++◌, append_assoc, append-nil}
use Prim.Native.Nat.{ℕ, zero, suc, ◌+◌, ◌≤◌}
use native.Mathlib.Omega.{arith}
use lib.ListN.{length}
use Rattle.ground.specs.Bytes.{byte_at}
use Rattle.name.specs.Begin.{can_begin}
use Rattle.view.specs.Strings.{is_stop}
use Rattle.view.proofs.Laws.{past_stop}
use Rattle.breach.specs.Characters.{character_at}
use Rattle.breach.specs.Breach.{breach_from}
use Rattle.breach.proofs.Letters.{character_ahead}

-- ---- the fuel is no limit
module _ (keeps : List ℕ → Bool) (t : List ℕ) where
  ends_here : (n : ℕ) (before : List ℕ) (p : ℕ) → is_stop (byte_at t p) ≡ true → breach_from keeps t n before p ≡ p
  unfolding breach_from
  ends_here zero before p e = refl
  ends_here (suc n) before p e = rw e

  enough : (n m : ℕ) (before : List ℕ) (p : ℕ) → length t ≤ n + p → length t ≤ m + p → breach_from keeps t n before p ≡ breach_from keeps t m before p
  unfolding breach_from
  enough zero m before p a b = sym (ends_here m before p (past_stop t p (omega arith)))
  enough (suc n) zero before p a b = ends_here (suc n) before p (past_stop t p (omega arith))
  enough (suc n) (suc m) before p a b =
      let o = character_ahead t p in
      ap (λ (x : ℕ). cond (not (is_stop (byte_at t p)) && can_begin keeps (before ++ (character_at t p).bytes)) x p)
      (enough n m (before ++ (character_at t p).bytes) (character_at t p).next (omega arith) (omega arith))

  -- ---- at a place
  module _ (before : List ℕ) (p : ℕ) where
    pub breach_end : is_stop (byte_at t p) ≡ true → breach_from keeps t (suc (length t)) before p ≡ p
    breach_end e = ends_here (suc (length t)) before p e

    pub breach_here : can_begin keeps (before ++ (character_at t p).bytes) ≡ false → breach_from keeps t (suc (length t)) before p ≡ p
    unfolding breach_from
    breach_here e = rw (e, and-false)

    pub breach_on : is_stop (byte_at t p) ≡ false → can_begin keeps (before ++ (character_at t p).bytes) ≡ true
        → breach_from keeps t (suc (length t)) before p ≡ breach_from keeps t (suc (length t)) (before ++ (character_at t p).bytes) (character_at t p).next
    unfolding breach_from
    breach_on e f =
        let o = character_ahead t p in
        rw (e, f) (enough (length t) (suc (length t)) (before ++ (character_at t p).bytes) (character_at t p).next (omega arith) (omega arith))

-- ---- two rules that can be begun alike, behind x and y, break at one place
module _ (f g : List ℕ → Bool) (t : List ℕ) where
  pub alike : (n : ℕ) (x y : List ℕ) (p : ℕ) → ((s : List ℕ) → can_begin f (x ++ s) ≡ can_begin g (y ++ s)) → breach_from f t n x p ≡ breach_from g t n y p
  unfolding breach_from
  alike zero x y p h = refl
  alike (suc n) x y p h =
      let c = (character_at t p).bytes in
      let on : (s : List ℕ) → can_begin f ((x ++ c) ++ s) ≡ can_begin g ((y ++ c) ++ s) =
      λ s. ap (λ (l : List ℕ). can_begin f l) (append_assoc x c s) ∙ h (c ++ s) ∙ ap (λ (l : List ℕ). can_begin g l) (sym (append_assoc y c s)) in
      ap (λ (b : Bool). cond (not (is_stop (byte_at t p)) && b) (breach_from f t n (x ++ c) (character_at t p).next) p) (h c)
      ∙ ap (λ (k : ℕ). cond (not (is_stop (byte_at t p)) && can_begin g (y ++ c)) k p) (alike n (x ++ c) (y ++ c) (character_at t p).next on)

  -- it is enough that they are behind the character that stands there
  pub alike_behind : (n : ℕ) (p : ℕ) → ((s : List ℕ) → can_begin f ((character_at t p).bytes ++ s) ≡ can_begin g ((character_at t p).bytes ++ s))
      → breach_from f t (suc n) [] p ≡ breach_from g t (suc n) [] p
  unfolding breach_from
  alike_behind n p h =
      let c = (character_at t p).bytes in
      let now : can_begin f c ≡ can_begin g c = ap (λ (l : List ℕ). can_begin f l) (sym (append-nil c)) ∙ h [] ∙ ap (λ (l : List ℕ). can_begin g l) (append-nil c) in
      ap (λ (b : Bool). cond (not (is_stop (byte_at t p)) && b) (breach_from f t n c (character_at t p).next) p) now
      ∙ ap (λ (k : ℕ). cond (not (is_stop (byte_at t p)) && can_begin g c) k p) (alike n c c (character_at t p).next h)
