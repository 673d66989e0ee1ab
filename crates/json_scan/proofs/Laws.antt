-- Laws of the automaton's run from a place of the text. Assumes nothing.
use mathlib.Core.Path.{◌≡◌, sym, ap, ◌∙◌}
use mathlib.Core.Logic.{⊎_elim, ◌⊎◌, inl, inr}
use mathlib.Core.Bool.{Bool, false, cond}
use mathlib.Core.List.{List}
use Prim.Native.Nat.{ℕ, ◌+◌, ◌≤◌, ◌<◌}
use native.Mathlib.Numerals.{add-one}
use native.Mathlib.Decide.{dec_lt}
use native.Mathlib.Omega.{arith}
use borrow.Author.Tests.{lt-ltb, le-ltb}
use lib.ListN.{length, get_or, drop_of_length-le, get_or-eq_default}
use lib.Seq.{drop-cons}
use Rattle.std.specs.Prelude.{Ok}
use Rattle.answer.specs.declared.refusal.Why.{Why}
use Rattle.answer.specs.declared.refusal.Why.TheVariants.{NotJson, TextTooLong}
use Rattle.json_scan.specs.Json.{Mode, Stack, Move, go, die, step, whole, run, onward, fault, longest, verdict, scanned}
use Rattle.json_scan.specs.Meets.{run_at}

pub split : (a b : ℕ) → (a < b) ⊎ (b ≤ a)
split a b = elim (dec_lt a b) [ yes h ↦ inl h | no h ↦ inr (omega arith) ]

-- a byte that is not 0 stands within the text
pub inside_of : (t : List ℕ) (p : ℕ) → 0 < get_or t p 0 → p < length t
inside_of t p h = ⊎_elim (λ l. l) (λ l. absurd (none l)) (split p (length t))
  where
    none : length t ≤ p → ⊥
    none l = let z : get_or t p 0 ≡ 0 = get_or-eq_default t 0 l in omega arith

module _ (t : List ℕ) (m : Mode) (k : Stack) (p : ℕ) where
  pub stepped : p < length t → run_at t m k p ≡ onward (step m (get_or t p 0) k) p (λ m' k'. run_at t m' k' (p + 1))
  unfolding run_at run
  stepped h = rw (add-one, drop-cons t p 0)

  pub at_end : length t ≤ p → run_at t m k p ≡ cond (whole m k) (Ok tt) (fault NotJson p)
  unfolding run_at run
  at_end h = rw (drop_of_length-le t h)

  -- one byte on
  pub hop : (m' : Mode) (k' : Stack) → p < length t → step m (get_or t p 0) k ≡ go m' k' → run_at t m k p ≡ run_at t m' k' (p + 1)
  hop m' k' h e = stepped h ∙ ap (λ (x : Move). onward x p (λ m'' k''. run_at t m'' k'' (p + 1))) e

  -- no text has this byte here
  pub kill : (w : Why) → p < length t → step m (get_or t p 0) k ≡ die w → run_at t m k p ≡ fault w p
  kill w h e = stepped h ∙ ap (λ (x : Move). onward x p (λ m'' k''. run_at t m'' k'' (p + 1))) e

  -- no text has this byte here, nor ends here
  pub halt : step m (get_or t p 0) k ≡ die NotJson → whole m k ≡ false → run_at t m k p ≡ fault NotJson p
  halt e w = ⊎_elim (λ l. kill NotJson l e) (λ l. at_end l ∙ ap (λ (x : Bool). cond x (Ok tt) (fault NotJson p)) w) (split p (length t))

-- a mode that does with this byte what another does
pub alike : (t : List ℕ) (m m' : Mode) (k : Stack) (p : ℕ) → step m (get_or t p 0) k ≡ step m' (get_or t p 0) k → whole m k ≡ whole m' k
    → run_at t m k p ≡ run_at t m' k p
alike t m m' k p e w =
    ⊎_elim
    (λ l. stepped t m k p l ∙ ap (λ (x : Move). onward x p (λ m'' k''. run_at t m'' k'' (p + 1))) e ∙ sym (stepped t m' k p l))
    (λ l. at_end t m k p l ∙ ap (λ (x : Bool). cond x (Ok tt) (fault NotJson p)) w ∙ sym (at_end t m' k p l))
    (split p (length t))

-- a text that is too long, and one that is not
module _ (t : List ℕ) where
  pub too_long : longest < length t → scanned t ≡ fault TextTooLong longest
  unfolding scanned
  too_long h = ap (λ (x : Bool). cond x (fault TextTooLong longest) (verdict t)) (lt-ltb longest (length t) h)

  pub not_too_long : length t ≤ longest → scanned t ≡ verdict t
  unfolding scanned
  not_too_long h = ap (λ (x : Bool). cond x (fault TextTooLong longest) (verdict t)) (le-ltb longest (length t) h)
