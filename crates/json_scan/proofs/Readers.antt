-- Readers one after the other. Assumes nothing.
use mathlib.Core.Path.{◌≡◌, refl, sym, ap, subst, ◌∙◌}
use mathlib.Core.Logic.{⊎_elim}
use mathlib.Core.Bool.{Bool, true, false}
use mathlib.Core.List.{List, ◌∷◌}
use Prim.Native.Nat.{ℕ, ◌+◌, ◌≤◌, ◌<◌}
use native.Mathlib.Omega.{arith}
use native.Mathlib.Numerals.{add-one}
use borrow.Author.Tests.{ne_eqb, lt-leb}
use lib.ListN.{length, get_or, drop, get_or-eq_default}
use lib.Seq.{drop-cons}
use lib.Dec.{T}
use Rattle.std.specs.Prelude.{Ok, Err}
use Rattle.answer.specs.declared.refusal.Why.TheVariants.{NotJson}
use Rattle.json_scan.specs.Json.{Mode, Stack, go, die, step, whole, one, inside, spelt, word, is_byte}
use Rattle.json_scan.specs.Meets.{on_step, Forth, Onward, Reads, Takes, took, one_of, then_one, Step}
use Rattle.answer.specs.declared.refusal.Fault.{Fault}
use Rattle.json_scan.proofs.Laws.{split, hop, halt}
use Rattle.json_scan.proofs.Items.{forth_on}

-- a byte of a class that 0 is not in stands within the text
pub lt_of_class : (c : ℕ → Bool) → c 0 ≡ false → (t : List ℕ) (p : ℕ) → c (get_or t p 0) ≡ true → p < length t
lt_of_class c z t p e = ⊎_elim (λ l. l) (λ l. absurd (none l)) (split p (length t))
  where
    none : length t ≤ p → ⊥
    none l =
        let x : true ≡ false = sym e ∙ ap c (get_or-eq_default t 0 l) ∙ z in
        subst T x tt

pub inside_zero : (lo hi : ℕ) → 0 < lo → inside lo hi 0 ≡ false
inside_zero lo hi h = simp (lt-leb lo 0 h)

module _ (t : List ℕ) (p : ℕ) (m : Mode) where
  -- past one byte, and on
  pub hop_reads : (m' m'' : Mode) (r : Step) → p < length t → ((k : Stack) → step m (get_or t p 0) k ≡ go m' k) → Reads t (p + 1) m' m'' r → Reads t p m m'' r
  hop_reads m' m'' r l e R = record {
    same = λ k. hop t m k p m' k l (e k) ∙ R.same k;
    forth = forth_on t p (p + 1) r (omega arith) R.forth;
  }

  pub go_reads : (m' : Mode) → p < length t → ((k : Stack) → step m (get_or t p 0) k ≡ go m' k) → Reads t p m m' (Ok (p + 1))
  go_reads m' l e = record { same = λ k. hop t m k p m' k l (e k); forth = (omega arith, omega arith) }

  pub die_reads : (m' : Mode) → ((k : Stack) → step m (get_or t p 0) k ≡ die NotJson) → ((k : Stack) → whole m k ≡ false) → Reads t p m m' (Err (record { why = NotJson; at = p }))
  die_reads m' e w = record { same = λ k. halt t m k p (e k) (w k); forth = tt }

  -- one byte of a class
  pub one_reads : (c : ℕ → Bool) → c 0 ≡ false → (m' : Mode) → Takes c (get_or t p 0) m m' → Reads t p m m' (one_of c t p)
  one_reads c z m' s = cases (c (get_or t p 0)) refl
    where
      cases : (x : Bool) → c (get_or t p 0) ≡ x → Reads t p m m' (took x p)
      cases true e = go_reads m' (lt_of_class c z t p e) (λ k. (s k).0 ∙ ap (λ (y : Bool). one y m' k) e)
      cases false e = die_reads m' (λ k. (s k).0 ∙ ap (λ (y : Bool). one y m' k) e) (λ k. (s k).1)

  -- a reader after a reader
  pub reads_then : (m' m'' : Mode) (r : Step) → Reads t p m m' r → (q : ℕ) → r ≡ Ok q → (s : Step) → Reads t q m' m'' s → Reads t p m m'' s
  reads_then m' m'' r R q e s S =
      let f : (p < q) × (q ≤ length t) = subst (Forth t p) e R.forth in
      record {
        same = λ k. R.same k ∙ ap (on_step t m' k) e ∙ S.same k;
        forth = forth_on t p q s (omega arith) S.forth;
      }

  pub reads_bad : (m' m'' : Mode) (r : Step) → Reads t p m m' r → (f : Fault) → r ≡ Err f → Reads t p m m'' (Err f)
  reads_bad m' m'' r R f e = record { same = λ k. R.same k ∙ ap (on_step t m' k) e; forth = tt }

  pub then_reads : (c : ℕ → Bool) → c 0 ≡ false → (m' m'' : Mode) (r : Step) → Reads t p m m' r → ((b : ℕ) → Takes c b m' m'') → Reads t p m m'' (then_one c t r)
  then_reads c z m' m'' (Ok q) R s = reads_then m' m'' (Ok q) R q refl (one_of c t q) (Rattle.json_scan.proofs.Readers.one_reads t q m' c z m'' (s (get_or t q 0)))
  then_reads c z m' m'' (Err f) R s = reads_bad m' m'' (Err f) R f refl

  pub reads_is : (m' : Mode) (r s : Step) → s ≡ r → Reads t p m m' r → Reads t p m m' s
  reads_is m' r s e R = subst (Reads t p m m') (sym e) R

pub onward_on : (t : List ℕ) (p q : ℕ) (r : Step) → p < q → q ≤ length t → Onward t q r → Forth t p r
onward_on t p q (Ok e) l h f = (omega arith, omega arith)
onward_on t p q (Err x) l h f = tt

pub onward_of : (t : List ℕ) (p q : ℕ) (r : Step) → p ≤ q → Forth t q r → Onward t p r
onward_of t p q (Ok e) l f = (omega arith, omega arith)
onward_of t p q (Err x) l f = tt

pub apart : (x : ℕ) → 0 < x → 0 ≡ x → ⊥
apart x h e = omega arith

-- the i-th byte of a word
pub letter : (t ws : List ℕ) (i p : ℕ) → i < length ws → 0 < get_or ws i 0 → (r : Step) → r ≡ one_of (is_byte (get_or ws i 0)) t p
    → Reads t p (spelt (drop i ws)) (spelt (drop (i + 1) ws)) r
letter t ws i p h l r e =
    let x = get_or ws i 0 in
    let rest = spelt (drop (i + 1) ws) in
    let one = one_reads t p (word x (drop (i + 1) ws)) (is_byte x) (ne_eqb 0 x (λ z. absurd (apart x l z))) rest (λ k. (refl, refl)) in
    reads_is t p (spelt (drop i ws)) rest (one_of (is_byte x) t p) r e
    (subst (λ (m : Mode). Reads t p m rest (one_of (is_byte x) t p)) (sym (ap spelt (drop-cons ws i 0 h ∙ ap (λ (n : ℕ). x ∷ drop n ws) (sym (add-one i))))) one)
