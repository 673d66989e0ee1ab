-- A run in parts: the run over a ++ b is the run over b from the state after a. Assumes nothing.
use mathlib.Core.Path.{◌≡◌, refl, sym, ap}
use mathlib.Core.List.{List, [], ◌∷◌, ◌++◌}
use Prim.Native.Nat.{ℕ, suc, ◌+◌}
use native.Mathlib.Omega.{arith}
use lib.ListN.{length}
use Rattle.answer.specs.declared.refusal.Why.{Why}
use Rattle.json_scan.specs.Json.{Mode, Stack, Move, go, die, step, onward, run, verdict, State, live, dead, start, moved, reach, run_from}

pub dead_stays : (a : List ℕ) (w : Why) (p : ℕ) → reach (dead w p) a ≡ dead w p
unfolding reach
dead_stays [] w p = refl
dead_stays (x ∷ a) w p = refl

pub run_parts : (a b : List ℕ) (s : State) → run_from s (a ++ b) ≡ run_from (reach s a) b
unfolding run reach
run_parts [] b s = refl
run_parts (x ∷ a) b (live m k p) = cases (step m x k) (run_parts a b)
  where
    cases : (v : Move) → ((s : State) → run_from s (a ++ b) ≡ run_from (reach s a) b)
        → onward v p (λ m' k'. run m' k' (suc p) (a ++ b)) ≡ run_from (reach (moved v p) a) b
    cases (go m' k') r = r (live m' k' (suc p))
    cases (die w) r = ap (λ (s : State). run_from s b) (sym (dead_stays a w p))
run_parts (x ∷ a) b (dead w p) = refl

-- of a whole text
pub verdict_parts : (a b : List ℕ) → verdict (a ++ b) ≡ run_from (reach start a) b
unfolding verdict
verdict_parts a b = run_parts a b start

-- the state after a ++ b is the state after b from the state after a
pub reach_parts : (a b : List ℕ) (s : State) → reach s (a ++ b) ≡ reach (reach s a) b
unfolding reach
reach_parts [] b s = refl
reach_parts (x ∷ a) b (live m k p) = reach_parts a b (moved (step m x k) p)
reach_parts (x ∷ a) b (dead w p) = sym (dead_stays b w p)

-- a live state stands behind the bytes that were read
pub reach_at : (a : List ℕ) (m : Mode) (k : Stack) (p : ℕ) (m' : Mode) (k' : Stack) (q : ℕ) → reach (live m k p) a ≡ live m' k' q → q ≡ p + length a
unfolding reach
reach_at [] m k p m' k' q h = let i : p ≡ q = cc in omega arith
reach_at (x ∷ a) m k p m' k' q h = cases (step m x k) (reach_at a) h
  where
    cases : (v : Move) → ((m'' : Mode) (k'' : Stack) (p'' : ℕ) (n : Mode) (l : Stack) (q'' : ℕ) → reach (live m'' k'' p'') a ≡ live n l q'' → q'' ≡ p'' + length a)
        → reach (moved v p) a ≡ live m' k' q → q ≡ p + suc (length a)
    cases (go m'' k'') r i = let e : q ≡ suc p + length a = r m'' k'' (suc p) m' k' q i in omega arith
    cases (die w) r i = let z : ◌≡◌ {A = ℕ} 0 1 = cc (dead_stays a w p) in absurd (no z)
      where
        no : ◌≡◌ {A = ℕ} 0 1 → ⊥
        no z = omega arith
