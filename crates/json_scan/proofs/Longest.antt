-- A fault stands at the first byte after the longest beginning of the text that a whole text has. Assumes nothing.
use mathlib.Core.Path.{◌≡◌, refl, sym, ap, ◌∙◌}
use mathlib.Core.Bool.{Bool, true, false, cond}
use mathlib.Core.Logic.{◌⊎◌, inl, inr, ⊎_elim}
use mathlib.Core.List.{List, [], ◌∷◌, ◌++◌, append_assoc}
use Prim.Native.Nat.{ℕ, suc, ◌+◌, ◌≤◌, ◌<◌}
use native.Mathlib.Omega.{arith}
use lib.ListN.{length, take, length-append}
use lib.Seq.{take_at, take_all}
use Rattle.std.specs.Prelude.{Ok, Err}
use Rattle.answer.specs.declared.refusal.Why.{Why}
use Rattle.answer.specs.declared.refusal.Why.TheVariants.{NotJson}
use Rattle.json_scan.specs.Json.{Mode, val, Stack, Move, go, die, step, whole, fault, onward, run, verdict, State, live, moved, reach, run_from, Verdict}
use Rattle.json_scan.proofs.Parts.{verdict_parts}
use Rattle.json_scan.proofs.Completion.{Shaped, step_leads, Leads, Whole_from, completed}

-- how a run came to the fault w at q: after the bytes `before`, which lead to a live state, the text ends, or has a byte at which the state dies
pub record Stopped (m : Mode) (k : Stack) (p : ℕ) (w : Why) (q : ℕ) (s : List ℕ) : Type 0 where
  pub before : List ℕ
  pub mode : Mode
  pub stack : Stack
  pub led : reach (live m k p) before ≡ live mode stack q
  pub shaped : Shaped mode stack
  pub where_at : q ≡ p + length before
  pub how : ((s ≡ before) × (w ≡ NotJson)) ⊎ ((b : ℕ) × (bs : List ℕ) × (s ≡ before ++ b ∷ bs) × (step mode b stack ≡ die w))

abbrev at_of : Verdict → ℕ
at_of (Ok u) = 0
at_of (Err f) = f.at

abbrev why_of : Verdict → Why
why_of (Ok u) = NotJson
why_of (Err f) = f.why

not_whole : (w : Why) (q : ℕ) → Ok tt ≡ fault w q → ⊥
not_whole w q h = let z : ◌≡◌ {A = ℕ} 0 1 = cc in omega arith

pub stopped : (s : List ℕ) (m : Mode) (k : Stack) (p : ℕ) (w : Why) (q : ℕ) → Shaped m k → run m k p s ≡ fault w q → Stopped m k p w q s
unfolding run reach
stopped [] m k p w q sh h = cases (whole m k) h
  where
    cases : (x : Bool) → cond x (Ok tt) (fault NotJson p) ≡ fault w q → Stopped m k p w q []
    cases true g = absurd (not_whole w q g)
    cases false g =
        let i : p ≡ q = ap at_of g in
        record { before = []; mode = m; stack = k; led = ap (live m k) i; shaped = sh; where_at = omega arith; how = inl (refl, sym (ap why_of g)) }
stopped (b ∷ s) m k p w q sh h = cases (step m b k) refl h (step_leads m b k sh) (stopped s)
  where
    cases : (v : Move) → step m b k ≡ v → onward v p (λ m' k'. run m' k' (suc p) s) ≡ fault w q → Leads v
        → ((m' : Mode) (k' : Stack) (p' : ℕ) (w' : Why) (q' : ℕ) → Shaped m' k' → run m' k' p' s ≡ fault w' q' → Stopped m' k' p' w' q' s)
        → Stopped m k p w q (b ∷ s)
    cases (go m' k') e g l r =
        let S = r m' k' (suc p) w q l g in
        let i : q ≡ suc p + length S.before = S.where_at in
        record {
          before = b ∷ S.before;
          mode = S.mode;
          stack = S.stack;
          led = ap (λ (v : Move). reach (moved v p) S.before) e ∙ S.led;
          shaped = S.shaped;
          where_at = omega arith;
          how = ⊎_elim (λ x. inl (ap (λ (y : List ℕ). b ∷ y) x.0, x.1)) (λ x. inr (x.0, x.1, ap (λ (y : List ℕ). b ∷ y) x.2, x.3)) S.how;
        }
    cases (die d) e g l r =
        let i : p ≡ q = ap at_of g in
        let j : d ≡ w = ap why_of g in
        record {
          before = [];
          mode = m;
          stack = k;
          led = ap (live m k) i;
          shaped = sh;
          where_at = omega arith;
          how = inr (b, s, refl, e ∙ ap die j);
        }

-- what a fault says of a text
pub record Longest (t : List ℕ) (w : Why) (p : ℕ) : Type 0 where
  -- it stands within the text, or at its end
  pub low : p ≤ length t
  -- some whole text begins with the bytes before it
  pub before : (s : List ℕ) × (verdict (take p t ++ s) ≡ Ok tt)
  -- no whole text begins with the bytes up to it: each such text has the same fault
  pub none : p < length t → (u : List ℕ) → verdict (take (suc p) t ++ u) ≡ fault w p

pub longest_prefix : (t : List ℕ) (w : Why) (p : ℕ) → verdict t ≡ fault w p → Longest t w p
unfolding verdict run
longest_prefix t w p h = ⊎_elim (λ x. at_the_end x.0) within S.how
  where
    S : Stopped val [] 0 w p t
    S = stopped t val [] 0 w p tt h

    B : List ℕ
    B = S.before

    len : length B ≡ p
    len = let i : p ≡ 0 + length B = S.where_at in omega arith

    W : Whole_from S.mode S.stack
    W = completed S.mode S.stack S.shaped

    from_here : (u : List ℕ) → verdict (B ++ u) ≡ run S.mode S.stack p u
    from_here u = verdict_parts B u ∙ ap (λ (s : State). run_from s u) S.led

    whole_from : take p t ≡ B → (s : List ℕ) × (verdict (take p t ++ s) ≡ Ok tt)
    whole_from i = (W.0, ap (λ (x : List ℕ). verdict (x ++ W.0)) i ∙ from_here W.0 ∙ W.1 p)

    at_the_end : t ≡ B → Longest t w p
    at_the_end i =
        let l : length t ≡ length B = ap length i in
        record { low = omega (arith, len); before = whole_from (take_all p t (omega (arith, len)) ∙ i); none = λ g. absurd (no g) }
      where
        no : p < length t → ⊥
        no g = let l : length t ≡ length B = ap length i in omega (arith, len)

    within : (b : ℕ) × (bs : List ℕ) × (t ≡ B ++ b ∷ bs) × (step S.mode b S.stack ≡ die w) → Longest t w p
    within x =
        let b = x.0 in
        let bs = x.1 in
        let l : length t ≡ length B + suc (length bs) = ap length x.2 ∙ length-append B (b ∷ bs) in
        record {
          low = omega (arith, len);
          before = whole_from (ap (take p) x.2 ∙ take_at B (b ∷ bs) p len);
          none = λ g u.
              ap (λ (y : List ℕ). verdict (y ++ u)) (ap (take (suc p)) (x.2 ∙ sym (append_assoc B (b ∷ []) bs)) ∙ take_at (B ++ b ∷ []) bs (suc p) (one_more b))
              ∙ ap verdict (append_assoc B (b ∷ []) u)
              ∙ from_here (b ∷ u)
              ∙ ap (λ (v : Move). onward v p (λ m' k'. run m' k' (suc p) u)) x.3;
        }
      where
        one_more : (b : ℕ) → length (B ++ b ∷ []) ≡ suc p
        one_more b = let y : length (B ++ b ∷ []) ≡ length B + 1 = length-append B (b ∷ []) in omega (arith, len)
