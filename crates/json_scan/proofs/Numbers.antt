-- Numbers. Assumes nothing.
use mathlib.Core.Path.{◌≡◌, refl, sym, ap, subst, ◌∙◌}
use mathlib.Core.Logic.{⊎_elim}
use mathlib.Core.Bool.{Bool, true, false, cond}
use mathlib.Core.List.{List}
use Prim.Native.Nat.{ℕ, ◌+◌, ◌≤◌, ◌<◌}
use native.Mathlib.Omega.{arith}
use borrow.Author.Tests.{ne_eqb, le-leb, lt-leb}
use lib.ListN.{length, get_or}
use lib.Dec.{T}
use Rattle.std.specs.Prelude.{Ok, Err}
use Rattle.answer.specs.declared.refusal.Why.TheVariants.{NotJson}
use Rattle.json_scan.specs.Json.{Mode, Stack, go, die, step, one, inside, is_digit, is_e, is_sign, num, minus, nought, int, dot, frac, e, sign, exp, number, after, power, point, done, digit1}
use Rattle.json_scan.specs.Meets.{run_at, on_step, Forth, Onward, Reads, Takes, one_of, Stays, Passes, Digits, Past, Like, Ends, Step}
use Rattle.answer.specs.declared.refusal.Fault.{Fault}
use Rattle.json_scan.proofs.Laws.{split, hop, alike}
use Rattle.json_scan.proofs.Readers.{lt_of_class, one_reads, onward_on, onward_of}

-- a digit, from p to q, and all the digits that follow, to d
module _ (t : List ℕ) (p : ℕ) (r : Step) (o : r ≡ one_of is_digit t p) where
  pub digits_on : (q : ℕ) → r ≡ Ok q → (d : ℕ) → Passes is_digit t q d → Digits t p (Ok d)
  unfolding number
  digits_on q n d P =
      let i : one_of is_digit t p ≡ Ok q = sym o ∙ n in
      let f : (p < q) × (q ≤ length t) = subst (Forth t p) i any.forth in
      let low = P.low in
      let high = P.high in
      record {
        same = λ m m' s st k. (one_reads t p m is_digit refl m' s).same k ∙ ap (on_step t m' k) i ∙ P.same m' st k;
        forth = (omega arith, omega arith);
        past = P.past;
      }
    where
      any : Reads t p (num dot) (num frac) (one_of is_digit t p)
      any = one_reads t p (num dot) is_digit refl (num frac) (λ k. (refl, refl))

  pub digits_bad : (f : Fault) → r ≡ Err f → Digits t p (Err f)
  digits_bad f n = record {
    same = λ m m' s st k. (one_reads t p m is_digit refl m' s).same k ∙ ap (on_step t m' k) (sym o ∙ n);
    forth = tt;
    past = tt;
  }

-- modes that digits leave as they are, and what they do at another byte
int_stays : Stays is_digit (num int)
unfolding number
int_stays b k h = ap (λ (x : Bool). cond x (go (num int) k) (point b k)) h

frac_stays : Stays is_digit (num frac)
unfolding number
frac_stays b k h = ap (λ (x : Bool). cond x (go (num frac) k) (power b k)) h

exp_stays : Stays is_digit (num exp)
unfolding number
exp_stays b k h = ap (λ (x : Bool). cond x (go (num exp) k) (after b k)) h

int_like : (b : ℕ) → is_digit b ≡ false → Like point b (num int)
unfolding number
int_like b h k = (ap (λ (x : Bool). cond x (go (num int) k) (point b k)) h, refl)

frac_like : (b : ℕ) → is_digit b ≡ false → Like power b (num frac)
unfolding number
frac_like b h k = (ap (λ (x : Bool). cond x (go (num frac) k) (power b k)) h, refl)

exp_done : (t : List ℕ) (r : Step) → Past t r → (k : Stack) → on_step t (num exp) k r ≡ on_step t done k r
unfolding number
exp_done t (Ok q) h k = alike t (num exp) done k q (ap (λ (x : Bool). cond x (go (num exp) k) (after (get_or t q 0) k)) h) refl
exp_done t (Err f) h k = refl

-- an exponent
module _ (t : List ℕ) (p : ℕ) (r : Step) where
  pub signed : is_sign (get_or t p 0) ≡ true → Digits t (p + 1) r → Reads t p (num e) done r
  unfolding number
  signed s D =
      let l = lt_of_class is_sign refl t p s in
      record {
        same = λ k. hop t (num e) k p (num sign) k l (ap (λ (x : Bool). cond x (go (num sign) k) (cond (is_digit (get_or t p 0)) (go (num exp) k) (die NotJson))) s)
            ∙ D.same (num sign) (num exp) (λ k. (refl, refl)) exp_stays k
            ∙ exp_done t r D.past k;
        forth = Rattle.json_scan.proofs.Items.forth_on t p (p + 1) r (omega arith) D.forth;
      }

  pub unsigned : is_sign (get_or t p 0) ≡ false → Digits t p r → Reads t p (num e) done r
  unfolding number
  unsigned s D = record {
    same = λ k. D.same (num e) (num exp) (λ k. (ap (λ (x : Bool). cond x (go (num sign) k) (cond (is_digit (get_or t p 0)) (go (num exp) k) (die NotJson))) s, refl)) exp_stays k
        ∙ exp_done t r D.past k;
    forth = D.forth;
  }

  pub powers : is_e (get_or t p 0) ≡ true → Reads t (p + 1) (num e) done r → Ends power t p r
  powers s R = record {
    same = λ m L k. hop t m k p (num e) k (lt_of_class is_e refl t p s) ((L k).0 ∙ ap (λ (x : Bool). cond x (go (num e) k) (after (get_or t p 0) k)) s) ∙ R.same k;
    forth = onward_of t p (p + 1) r (omega arith) R.forth;
  }

pub unpowered : (t : List ℕ) (p : ℕ) → is_e (get_or t p 0) ≡ false → Ends power t p (Ok p)
unpowered t p s = record {
  same = λ m L k. alike t m done k p ((L k).0 ∙ ap (λ (x : Bool). cond x (go (num e) k) (after (get_or t p 0) k)) s) (L k).1;
  forth = (omega arith, omega arith);
}

-- a fraction
module _ (t : List ℕ) (p : ℕ) where
  pub unpointed : (r : Step) → (get_or t p 0 ≡ 46 → ⊥) → Ends power t p r → Ends point t p r
  unpointed r n E = record {
    same = λ m L k. E.same m (λ k. ((L k).0 ∙ ap (λ (x : Bool). cond x (go (num dot) k) (power (get_or t p 0) k)) (ne_eqb (get_or t p 0) 46 n), (L k).1)) k;
    forth = E.forth;
  }

  module _ (b : get_or t p 0 ≡ 46) (l : p < length t) (r : Step) (D : Digits t (p + 1) r) where
    to_frac : (m : Mode) → Like point (get_or t p 0) m → (k : Stack) → run_at t m k p ≡ on_step t (num frac) k r
    unfolding number
    to_frac m L k = hop t m k p (num dot) k l ((L k).0 ∙ ap (λ (x : ℕ). point x k) b) ∙ D.same (num dot) (num frac) (λ k. (refl, refl)) frac_stays k

    pub pointed_on : (q : ℕ) → r ≡ Ok q → (s : Step) → Ends power t q s → Ends point t p s
    pointed_on q n s E =
        let f : (p + 1 < q) × (q ≤ length t) = subst (Forth t (p + 1)) n D.forth in
        let past : is_digit (get_or t q 0) ≡ false = subst (Past t) n D.past in
        record {
          same = λ m L k. to_frac m L k ∙ ap (on_step t (num frac) k) n ∙ E.same (num frac) (frac_like (get_or t q 0) past) k;
          forth = wider s (omega arith) f.1 E.forth;
        }
      where
        wider : (s : Step) → p ≤ q → q ≤ length t → Onward t q s → Onward t p s
        wider (Ok y) l h o = (omega arith, omega arith)
        wider (Err y) l h o = tt

    pub pointed_bad : (f : Fault) → r ≡ Err f → Ends point t p (Err f)
    pointed_bad f n = record { same = λ m L k. to_frac m L k ∙ ap (on_step t (num frac) k) n; forth = tt }

-- a number from its first digit
not_nought : (b : ℕ) → (b ≡ 48 → ⊥) → inside 49 57 b ≡ inside 48 57 b
not_nought b n = ⊎_elim
    (λ (l : 48 < b). simp (le-leb 49 b l, le-leb 48 b (omega arith)))
    (λ (l : b ≤ 48). simp (lt-leb 49 b (omega arith), lt-leb 48 b (omega arith)))
    (split 48 b)

minus_takes : (b : ℕ) → (b ≡ 48 → ⊥) → Takes is_digit b (num minus) (num int)
unfolding number
minus_takes b n k = (
  ap (λ (x : Bool). cond x (go (num nought) k) (cond (inside 49 57 b) (go (num int) k) (die NotJson))) (ne_eqb b 48 n)
      ∙ ap (λ (x : Bool). one x (num int) k) (not_nought b n),
  refl,
)

module _ (t : List ℕ) (p : ℕ) where
  pub from_nought : get_or t p 0 ≡ 48 → p < length t → (r : Step) → Ends point t (p + 1) r → Reads t p (num minus) done r
  unfolding number
  from_nought b l r E = record {
    same = λ k. hop t (num minus) k p (num nought) k l (ap (λ (x : ℕ). step (num minus) x k) b) ∙ E.same (num nought) (λ k. (refl, refl)) k;
    forth = onward_on t p (p + 1) r (omega arith) (omega arith) E.forth;
  }

  module _ (b : get_or t p 0 ≡ 48 → ⊥) (r : Step) (D : Digits t p r) where
    to_int : (k : Stack) → run_at t (num minus) k p ≡ on_step t (num int) k r
    to_int = D.same (num minus) (num int) (minus_takes (get_or t p 0) b) int_stays

    pub from_digits : (q : ℕ) → r ≡ Ok q → (s : Step) → Ends point t q s → Reads t p (num minus) done s
    from_digits q n s E =
        let f : (p < q) × (q ≤ length t) = subst (Forth t p) n D.forth in
        let past : is_digit (get_or t q 0) ≡ false = subst (Past t) n D.past in
        record {
          same = λ k. to_int k ∙ ap (on_step t (num int) k) n ∙ E.same (num int) (int_like (get_or t q 0) past) k;
          forth = onward_on t p q s f.0 f.1 E.forth;
        }

    pub no_digits : (f : Fault) → r ≡ Err f → Reads t p (num minus) done (Err f)
    no_digits f n = record { same = λ k. to_int k ∙ ap (on_step t (num int) k) n; forth = tt }

pub no_digit : (b : ℕ) (k : Stack) → is_digit b ≡ false → digit1 b k ≡ die NotJson
no_digit b k h =
    let n : (b ≡ 48 → ⊥) = λ e. subst T (sym (ap is_digit e) ∙ h) tt in
    ap (λ (x : Bool). cond x (go (num nought) k) (cond (inside 49 57 b) (go (num int) k) (die NotJson))) (ne_eqb b 48 n)
    ∙ ap (λ (x : Bool). one x (num int) k) (not_nought b n ∙ h)
