-- Note 7 comes after 6 and says what the specification says: for sizes from 1 to 16, a decimal that holds otherwise has it exactly if 10 to the precision
-- exceeds the largest number of that many bytes.
-- Assumes nothing.
use mathlib.Core.Path.{◌≡◌, ap}
use mathlib.Core.Bool.{Bool, true, false, cond}
use Prim.Native.Nat.{ℕ, ◌^◌, ◌<◌, ◌≤◌}
use native.Mathlib.Decide.{dec_lt}
use native.Mathlib.Omega.{arith}
use lib.Dec.{eqb, ltb}
use borrow.Author.Tests.{ne_eqb, le-ltb, lt-ltb}
use Rattle.decimals.specs.Limits.{largest_number, limit_of}
use Rattle.decimals.proofs.Laws.{above_limit, within_limit}
use Rattle.form.specs.declared.note.Note.{Note}
use Rattle.form.specs.declared.note.Plain.{Plain}
use Rattle.form.specs.declared.note.Plain.TheVariants.{Fixed}
use Rattle.form.specs.Notes.{noted, holds, exceeds, compared}

-- 6 comes first, whatever the limit
pub six_first : (plain : Plain) (p s : ℕ) → 1 ≤ p → p < s → compared plain p s ≡ noted 6
unfolding compared
six_first plain p s l h = rw (ne_eqb p 0 (λ (z : p ≡ 0). omega arith), lt-ltb p s h)

another : {A : Type 0} {a b : ℕ} {p s : ℕ} → (a ≡ b → ⊥) → ◌≡◌ {A = Note} (record { note = a; precision = p; scale = s }) (noted b) → A
another n e = absurd (n (ap (λ (x : Note). x.note) e))

no_seven : {A : Type 0} (p s : ℕ) (x y : Bool) → cond x (noted 5) (cond y (noted 6) (holds p s)) ≡ noted 7 → A
no_seven p s true y e = another (λ (g : 5 ≡ 7). omega arith) e
no_seven p s false true e = another (λ (g : 6 ≡ 7). omega arith) e
no_seven p s false false e = another (λ (g : 1 ≡ 7). omega arith) e

module _ (n p s : ℕ) (l : 1 ≤ n) (h : n ≤ 16) where
  pub seven_only : compared (Fixed n) p s ≡ noted 7 → largest_number n < 10 ^ p
  unfolding compared exceeds
  seven_only e = go (dec_lt (limit_of n) p)
    where
      go : Dec (limit_of n < p) → largest_number n < 10 ^ p
      go (yes g) = above_limit n p l h g
      go (no g) = no_seven p s (eqb p 0) (ltb p s) (rw (le-ltb (limit_of n) p (omega arith)) at e)

  pub seven_if : 1 ≤ p → s ≤ p → largest_number n < 10 ^ p → compared (Fixed n) p s ≡ noted 7
  unfolding compared exceeds
  seven_if a b c = rw (ne_eqb p 0 (λ (z : p ≡ 0). omega arith), le-ltb p s b, lt-ltb (limit_of n) p (go (dec_lt (limit_of n) p)))
    where
      go : Dec (limit_of n < p) → limit_of n < p
      go (yes g) = g
      go (no g) = let w = within_limit n p l h (omega arith) in absurd (omega (arith, c, w))
