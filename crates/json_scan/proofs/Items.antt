-- Arrays and objects: what the automaton does at each byte that their readers look at. Assumes nothing.
use mathlib.Core.Path.{◌≡◌, refl, sym, ap, subst, ◌∙◌}
use mathlib.Core.Bool.{Bool, false, cond}
use mathlib.Core.List.{List, [], ◌∷◌}
use Prim.Native.Nat.{ℕ, ◌+◌, ◌-◌, ◌≤◌, ◌<◌}
use native.Mathlib.Omega.{arith}
use borrow.Author.Tests.{ne_eqb, lt-ltb, le-ltb}
use lib.ListN.{length, get_or}
use lib.Dec.{eqb}
use Rattle.std.specs.Prelude.{Result, Ok, Err}
use Rattle.answer.specs.declared.refusal.Fault.{Fault}
use Rattle.answer.specs.declared.refusal.Why.TheVariants.{NotJson, NestedTooDeep}
use Rattle.json_scan.specs.Json.{deepest, Mode, Stack, Bracket, square, brace, Move, go, die, step, whole, is_space, spaced, begin, opens, next, val, first, done, key0, key, shut, one, str, as_key, plain}
use Rattle.json_scan.specs.Meets.{run_at, on_step, Forth, Reads, ReadsIn, Brackets, Stays, Passes, Follows, Simple, closer, opening, again, on_more, Further, Step}
use Rattle.json_scan.specs.declared.step.More.{More}
use Rattle.json_scan.specs.declared.step.More.TheVariants.{Again, Closed}
use Rattle.json_scan.proofs.Laws.{inside_of, hop, kill, halt, alike}

pub lt_of_byte : (t : List ℕ) (p b : ℕ) → get_or t p 0 ≡ b → 0 < b → p < length t
lt_of_byte t p b e h = inside_of t p (omega arith)

pub forth_on : (t : List ℕ) (p q : ℕ) (r : Step) → p ≤ q → Forth t q r → Forth t p r
forth_on t p q (Ok e) h f = (omega arith, f.1)
forth_on t p q (Err x) h f = tt

-- white space
pub val_stays : Stays is_space val
val_stays b k e = ap (λ (x : Bool). cond x (go val k) (begin b k)) e

pub done_stays : Stays is_space done
done_stays b k e = ap (λ (x : Bool). cond x (go done k) (next b k)) e

-- the step of a mode that white space leaves as it is, at another byte
past_space : (m : Mode) (b : ℕ) (k : Stack) (x : Move) → is_space b ≡ false → spaced m k b x ≡ x
past_space m b k x e = ap (λ (y : Bool). cond y (go m k) x) e

-- after an element
closes_step : (x : Bracket) (b : ℕ) (k : Stack) → b ≡ closer x → step done b (x ∷ k) ≡ go done k
closes_step square b k e = ap (λ (y : ℕ). step done y (square ∷ k)) e
closes_step brace b k e = ap (λ (y : ℕ). step done y (brace ∷ k)) e

comma_step : (x : Bracket) (b : ℕ) (k : Stack) → b ≡ 44 → step done b (x ∷ k) ≡ go (again x) (x ∷ k)
comma_step square b k e = ap (λ (y : ℕ). step done y (square ∷ k)) e
comma_step brace b k e = ap (λ (y : ℕ). step done y (brace ∷ k)) e

other_step : (x : Bracket) (b : ℕ) (k : Stack) → is_space b ≡ false → (b ≡ closer x → ⊥) → (b ≡ 44 → ⊥) → step done b (x ∷ k) ≡ die NotJson
other_step square b k s n m = past_space done b (square ∷ k) _ s ∙ simp (ne_eqb b 93 n, ne_eqb b 44 m)
other_step brace b k s n m = past_space done b (brace ∷ k) _ s ∙ simp (ne_eqb b 125 n, ne_eqb b 44 m)

module _ (t : List ℕ) (p q close : ℕ) (P : Passes is_space t p q) where
  pub shut_here : get_or t q 0 ≡ close → 0 < close → Follows t p close (Ok (Closed (q + 1)))
  shut_here e h =
      let l = lt_of_byte t q close e h in
      let low = P.low in
      record {
        same = λ x c k. P.same done done_stays (x ∷ k) ∙ hop t done (x ∷ k) q done k l (closes_step x (get_or t q 0) k (e ∙ sym c));
        forth = (omega arith, omega arith);
      }

  pub more_here : get_or t q 0 ≡ 44 → (get_or t q 0 ≡ close → ⊥) → Follows t p close (Ok (Again (q + 1)))
  more_here e n =
      let l = lt_of_byte t q 44 e (omega arith) in
      let low = P.low in
      record {
        same = λ x c k. P.same done done_stays (x ∷ k) ∙ hop t done (x ∷ k) q (again x) (x ∷ k) l (comma_step x (get_or t q 0) k e);
        forth = (omega arith, omega arith);
      }

  pub none_here : (get_or t q 0 ≡ close → ⊥) → (get_or t q 0 ≡ 44 → ⊥) → Follows t p close (Err (record { why = NotJson; at = q }))
  none_here n m = record {
    same = λ x c k. P.same done done_stays (x ∷ k) ∙ halt t done (x ∷ k) q (other_step x (get_or t q 0) k P.past (λ e. n (e ∙ c)) m) refl;
    forth = tt;
  }

-- a value: after white space, from p to q, comes its first byte
val_step : (b : ℕ) (k : Stack) → is_space b ≡ false → step val b k ≡ begin b k
val_step b k s = past_space val b k (begin b k) s

module _ (t : List ℕ) (p q left : ℕ) (P : Passes is_space t p q) where
  -- an opening bracket: `step val b k` is `opens x m k` at its byte
  module _ (b : ℕ) (x : Bracket) (m : Mode) (e : get_or t q 0 ≡ b) (h : 0 < b) (o : (k : Stack) → step val b k ≡ opens x m k) where
    pub too_deep : left ≡ 0 → ReadsIn t p left val (Err (record { why = NestedTooDeep; at = q }))
    too_deep z = record {
      same = λ k f. P.same val val_stays k
          ∙ kill t val k q NestedTooDeep (lt_of_byte t q b e h)
          (ap (λ (y : ℕ). step val y k) e ∙ o k ∙ ap (λ (y : Bool). cond y (go m (x ∷ k)) (die NestedTooDeep)) (le-ltb (length k) deepest (omega arith)));
      forth = tt;
    }

    pub opened : (r : Step) → (left ≡ 0 → ⊥) → Brackets t (q + 1) (left - 1) x m r → ReadsIn t p left val r
    opened r z B =
        let low = P.low in
        record {
          same = λ k f. P.same val val_stays k
              ∙ hop t val k q m (x ∷ k) (lt_of_byte t q b e h)
              (ap (λ (y : ℕ). step val y k) e ∙ o k ∙ ap (λ (y : Bool). cond y (go m (x ∷ k)) (die NestedTooDeep)) (lt-ltb (length k) deepest (omega arith)))
              ∙ B.same k (omega arith);
          forth = forth_on t p (q + 1) r (omega arith) B.forth;
        }

  pub simply : (b : ℕ) (r : Step) → b ≡ get_or t q 0 → (b ≡ 91 → ⊥) → (b ≡ 123 → ⊥) → Simple t q b r → ReadsIn t p left val r
  simply b r e n m S = record {
    same = λ k f. P.same val val_stays k
        ∙ S.same val k (val_step b k (ap is_space e ∙ P.past) ∙ simp (ne_eqb b 91 n, ne_eqb b 123 m)) refl;
    forth = forth_on t p q r P.low S.forth;
  }

-- an array or an object: after white space, from p to q, comes the closing bracket, or the first element
first_stays : Stays is_space first
first_stays b k e = ap (λ (x : Bool). cond x (go first k) (cond (eqb b 93) (shut k) (begin b k))) e

key0_stays : Stays is_space key0
key0_stays b k e = ap (λ (x : Bool). cond x (go key0 k) (cond (eqb b 125) (shut k) (one (eqb b 34) (str as_key plain) k))) e

opening_stays : (x : Bracket) → Stays is_space (opening x)
opening_stays square = first_stays
opening_stays brace = key0_stays

shuts : (x : Bracket) (b : ℕ) (k : Stack) → b ≡ closer x → step (opening x) b (x ∷ k) ≡ go done k
shuts square b k e = ap (λ (y : ℕ). step first y (square ∷ k)) e
shuts brace b k e = ap (λ (y : ℕ). step key0 y (brace ∷ k)) e

goes_in : (x : Bracket) (b : ℕ) (k : Stack) → is_space b ≡ false → (b ≡ closer x → ⊥) → step (opening x) b k ≡ step (again x) b k
goes_in square b k s n = past_space first b k _ s ∙ simp (ne_eqb b 93 n) (sym (past_space val b k _ s))
goes_in brace b k s n = past_space key0 b k _ s ∙ simp (ne_eqb b 125 n) (sym (past_space key b k _ s))

unended : (x : Bracket) (k : Stack) → whole (opening x) k ≡ whole (again x) k
unended square k = refl
unended brace k = refl

-- so far: from p, after the bracket, the automaton comes to where it comes from q, at an element
pub record SoFar (t : List ℕ) (p left : ℕ) (x : Bracket) (q : ℕ) : Type 0 where
  pub low : p ≤ q
  pub same : (k : Stack) → length k + 1 + left ≡ deepest → run_at t (opening x) (x ∷ k) p ≡ run_at t (again x) (x ∷ k) q

closer_pos : (x : Bracket) → 0 < closer x
closer_pos square = omega arith
closer_pos brace = omega arith

module _ (t : List ℕ) (p q left : ℕ) (x : Bracket) (P : Passes is_space t p q) where
  pub empty : get_or t q 0 ≡ closer x → Brackets t p left x (opening x) (Ok (q + 1))
  empty e =
      let l = lt_of_byte t q (closer x) e (closer_pos x) in
      let low = P.low in
      record {
        same = λ k f. P.same (opening x) (opening_stays x) (x ∷ k) ∙ hop t (opening x) (x ∷ k) q done k l (shuts x (get_or t q 0) k e);
        forth = (omega arith, omega arith);
      }

  pub entered : (get_or t q 0 ≡ closer x → ⊥) → SoFar t p left x q
  entered n = record {
    low = P.low;
    same = λ k f. P.same (opening x) (opening_stays x) (x ∷ k)
        ∙ alike t (opening x) (again x) (x ∷ k) q (goes_in x (get_or t q 0) (x ∷ k) P.past n) (unended x (x ∷ k));
  }

-- an element, from q to e, and what follows it
module _ (t : List ℕ) (p q left : ℕ) (x : Bracket) (S : SoFar t p left x q) where
  pub faulty : (r : Step) → ReadsIn t q left (again x) r → (f : _) → r ≡ Err f → Brackets t p left x (opening x) (Err f)
  faulty r R f e = record {
    same = λ k g. S.same k g ∙ R.same (x ∷ k) (omega arith) ∙ ap (on_step t done (x ∷ k)) e;
    forth = tt;
  }

  module _ (r : Step) (R : ReadsIn t q left (again x) r) (e : ℕ) (E : r ≡ Ok e) where
    forth_e : (q < e) × (e ≤ length t)
    forth_e = subst (Forth t q) E R.forth

    to_e : (k : Stack) → length k + 1 + left ≡ deepest → run_at t (opening x) (x ∷ k) p ≡ run_at t done (x ∷ k) e
    to_e k g = S.same k g ∙ R.same (x ∷ k) (omega arith) ∙ ap (on_step t done (x ∷ k)) E

    module _ (w : Result More Fault) (F : Follows t e (closer x) w) where
      pub on_again : (a : ℕ) → w ≡ Ok (Again a) → SoFar t p left x a × (q < a) × (a ≤ length t)
      on_again a A =
          let fe = forth_e in
          let fa : (e < a) × (a ≤ length t) = subst (Further t e) A F.forth in
          let low = S.low in
          (record { low = omega arith; same = λ k g. to_e k g ∙ F.same x refl k ∙ ap (on_more t x k) A }, omega arith, fa.1)

      pub on_closed : (a : ℕ) → w ≡ Ok (Closed a) → Brackets t p left x (opening x) (Ok a)
      on_closed a A =
          let fe = forth_e in
          let fa : (e < a) × (a ≤ length t) = subst (Further t e) A F.forth in
          let low = S.low in
          record {
            same = λ k g. to_e k g ∙ F.same x refl k ∙ ap (on_more t x k) A;
            forth = (omega arith, fa.1);
          }

      pub on_stop : (f : _) → w ≡ Err f → Brackets t p left x (opening x) (Err f)
      on_stop f A = record {
        same = λ k g. to_e k g ∙ F.same x refl k ∙ ap (on_more t x k) A;
        forth = tt;
      }

-- a member: a key, from q to v, and a value
module _ (t : List ℕ) (q left : ℕ) (r : Step) (K : Reads t q key val r) where
  pub no_key : (f : _) → r ≡ Err f → ReadsIn t q left key (Err f)
  no_key f e = record { same = λ k g. K.same k ∙ ap (on_step t val k) e; forth = tt }

  pub keyed : (v : ℕ) → r ≡ Ok v → (s : Step) → ReadsIn t v left val s → ReadsIn t q left key s
  keyed v e s R =
      let fv : (q < v) × (v ≤ length t) = subst (Forth t q) e K.forth in
      record {
        same = λ k g. K.same k ∙ ap (on_step t val k) e ∙ R.same k g;
        forth = forth_on t q v s (omega arith) R.forth;
      }

-- after the whole text nothing but white space may come
pub over : (b : ℕ) → is_space b ≡ false → step done b [] ≡ die NotJson
over b s = past_space done b [] (die NotJson) s
