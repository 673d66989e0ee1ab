-- A run without its places: whether the bytes are taken, or why they are refused. Assumes nothing.
use mathlib.Core.Path.{◌≡◌, refl, ap, ◌∙◌}
use mathlib.Core.Bool.{Bool, true, false, cond}
use mathlib.Core.List.{List, [], ◌∷◌}
use Prim.Native.Nat.{ℕ, suc}
use native.Mathlib.Omega.{arith}
use Rattle.std.specs.Prelude.{Ok, Err}
use Rattle.answer.specs.declared.refusal.Why.{Why}
use Rattle.answer.specs.declared.refusal.Why.TheVariants.{NotJson}
use Rattle.json_scan.specs.Json.{Mode, Stack, Move, go, die, step, whole, run, onward, fault, verdict, val, Verdict}

pub data Ending : Type 0 where
  taken : Ending
  refused : Why → Ending

abbrev pub ending_of : Verdict → Ending
ending_of (Ok u) = taken
ending_of (Err f) = refused f.why

abbrev pub going : Move → (Mode → Stack → Ending) → Ending
going (go m k) f = f m k
going (die w) f = refused w

unfoldable pub ending : Mode → Stack → List ℕ → Ending
ending m k [] = cond (whole m k) taken (refused NotJson)
ending m k (b ∷ s) = going (step m b k) (λ m' k'. ending m' k' s)

pub ending_run : (s : List ℕ) (m : Mode) (k : Stack) (p : ℕ) → ending_of (run m k p s) ≡ ending m k s
unfolding run ending
ending_run [] m k p = cases (whole m k)
  where
    cases : (x : Bool) → ending_of (cond x (Ok tt) (fault NotJson p)) ≡ cond x taken (refused NotJson)
    cases true = refl
    cases false = refl
ending_run (b ∷ s) m k p = cases (step m b k) (ending_run s)
  where
    cases : (v : Move) → ((m' : Mode) (k' : Stack) (q : ℕ) → ending_of (run m' k' q s) ≡ ending m' k' s)
        → ending_of (onward v p (λ m' k'. run m' k' (suc p) s)) ≡ going v (λ m' k'. ending m' k' s)
    cases (go m' k') r = r m' k' (suc p)
    cases (die w) r = refl

module _ (t : List ℕ) where
  pub verdict_ending : ending_of (verdict t) ≡ ending val [] t
  unfolding verdict
  verdict_ending = ending_run t val [] 0

  pub whole_of : ending val [] t ≡ taken → verdict t ≡ Ok tt
  whole_of h = cases (verdict t) (verdict_ending ∙ h)
    where
      cases : (v : Verdict) → ending_of v ≡ taken → v ≡ Ok tt
      cases (Ok u) e = refl
      cases (Err f) e = let z : ◌≡◌ {A = ℕ} 0 1 = cc in absurd (no z)
        where
          no : ◌≡◌ {A = ℕ} 0 1 → ⊥
          no z = omega arith

  pub fault_of_lem : (w : Why) → ending val [] t ≡ refused w → (p : ℕ) × (verdict t ≡ fault w p)
  fault_of_lem w h = cases (verdict t) (verdict_ending ∙ h)
    where
      cases : (v : Verdict) → ending_of v ≡ refused w → (p : ℕ) × (v ≡ fault w p)
      cases (Ok u) e = let z : ◌≡◌ {A = ℕ} 0 1 = cc in absurd (no z)
        where
          no : ◌≡◌ {A = ℕ} 0 1 → ⊥
          no z = omega arith
      cases (Err f) e = let i : f.why ≡ w = cc in (f.at, ap (λ (y : Why). fault y f.at) i)
