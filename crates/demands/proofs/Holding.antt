-- Memory that calls built: what it holds, and what the calls do to it.
-- Assumes nothing.
use mathlib.Core.Path.{◌≡◌, refl, sym, ap, subst, ◌∙◌}
use mathlib.Core.Bool.{Bool, true, false, cond}
use mathlib.Core.List.{List, [], ◌∷◌, ◌++◌, append_assoc, append-nil}
use Prim.Native.Nat.{ℕ, ◌<◌, ◌≤◌}
use native.Mathlib.Omega.{arith}
use native.Mathlib.Decide.{dec_lt}
use lib.Dec.{eqb}
use lib.ListN.{length, length-append, length-replicate}
use borrow.Author.Tests.{lt-ltb, eq-eqb, ne_eqb, eqb-true}
use Rattle.answer.specs.Limits.{no_counts}
use Rattle.answer.specs.declared.counts.Counts.{Counts}
use Rattle.answer.specs.declared.refusal.Why.TheVariants.{NoSuchPlace}
use Rattle.answer.specs.declared.refusal.Refusal.{Refusal}
use Rattle.answer.specs.Numbers.{number_of}
use Rattle.answer.specs.Answers.{of_counts, of_refusal, refused}
use Rattle.answer.proofs.Laws.{never_zero}
use Rattle.row.specs.Layout.{layout_length}
use Rattle.row.specs.Rows.{Row, texts}
use Rattle.row.specs.Sets.{flat, zeros, encode, decode}
use Rattle.row.specs.Memory.{set_counts}
use Rattle.row.proofs.Laws.{decode_encode}
use Rattle.formed.specs.WellFormed.{Good, well_formed}
use Rattle.formed.proofs.Laws.{exact, encode_good, good_within, none_good}
use Rattle.set.specs.Lists.{Result, becomes, refuses, refuse, next, put_in}
use Rattle.set.specs.Calls.{answer_of, memory_of, opened, put}
use Rattle.set.proofs.Laws.{put_formed}
use Rattle.demands.specs.Building.{Outcome, outcome, is_done, empty_set, put_each, edit, if_done, Built, opens, puts}
use Rattle.demands.proofs.Steps.{becomes_inj, not_both, must_hold, edit_last, last_done, put_good}
use Rattle.demands.proofs.Editing.{put_all, run_done, run_good, reads_length, edit_law}

-- ---- what an answer tells

-- no refusal has the number 0
pub not_done : (r : Refusal) → is_done (of_refusal r) ≡ false
not_done r = ne_eqb (number_of r.why) 0 (never_zero r.why)

pub done_becomes : (x : Result) → (answer_of x).number ≡ 0 → (d : List (List Row)) × (x ≡ becomes d)
unfolding answer_of
done_becomes (becomes d) e = (d, refl)
done_becomes (refuses r) e = absurd (never_zero r.why e)

pub refused_refuses : (x : Result) → ((answer_of x).number ≡ 0 → ⊥) → (f : Refusal) × (x ≡ refuses f)
unfolding answer_of
refused_refuses (becomes d) e = absurd (e refl)
refused_refuses (refuses r) e = (r, refl)

pub refused_leaves : (m : List ℕ) (x : Result) → ((answer_of x).number ≡ 0 → ⊥) → memory_of m x ≡ m
unfolding memory_of
refused_leaves m x e = ap (memory_of m) (refused_refuses x e).1

-- ---- calls on well-formed memory

module _ (m : List ℕ) (wf : well_formed m ≡ true) where
  -- what a call keeps of well-formed memory
  kept_by : (x : Result) → ((d : List (List Row)) → x ≡ becomes d → Good d) → well_formed (memory_of m x) ≡ true
  unfolding memory_of
  kept_by (becomes d) h = encode_good d (h d refl)
  kept_by (refuses r) h = wf

  pub put_kept : (place : ℕ) (t : List ℕ) → well_formed (memory_of m (put m place t)) ≡ true
  put_kept place t = kept_by (put m place t) (λ d e. put_good (decode m) place t d (exact m wf).1 (sym (put_formed m wf place t) ∙ e))

-- ---- open

pub opened_is : (m : List ℕ) → length m ≡ layout_length → opened m ≡ becomes []
unfolding opened
opened_is m e = rw (eq-eqb (length m) layout_length e)

pub opened_formed : (m : List ℕ) → length m ≡ layout_length → well_formed (memory_of m (opened m)) ≡ true
unfolding memory_of
opened_formed m e = ap (λ (x : Result). well_formed (memory_of m x)) (opened_is m e) ∙ encode_good [] none_good

pub opened_length : (m : List ℕ) → (answer_of (opened m)).number ≡ 0 → length m ≡ layout_length
unfolding opened
opened_length m e = let d = done_becomes (opened m) e in eqb-true _ _ (must_hold (eqb (length m) layout_length) _ _ d.0 d.1).0

pub none_counts : set_counts [] ≡ no_counts
unfolding set_counts flat texts
none_counts = refl

pub empty_outcome : (m : List ℕ) → outcome m (becomes []) ≡ empty_set
unfolding outcome empty_set answer_of memory_of
empty_outcome m = ap (λ (c : Counts). record { answer = of_counts c; memory = encode [] }) none_counts

pub opened_empty : (m : List ℕ) → length m ≡ layout_length → outcome m (opened m) ≡ empty_set
opened_empty m e = ap (outcome m) (opened_is m e) ∙ empty_outcome m

-- ---- calls on an encoded set

module _ (ds : List (List Row)) (g : Good ds) where
  decoded : decode (encode ds) ≡ ds
  decoded = decode_encode ds (good_within ds g)

  pub put_encoded : (place : ℕ) (t : List ℕ) → put (encode ds) place t ≡ put_in ds place t
  put_encoded place t = put_formed (encode ds) (encode_good ds g) place t ∙ ap (λ (x : List (List Row)). put_in x place t) decoded

-- ---- what built memory holds

pub record Holds (m : List ℕ) (ts : List (List ℕ)) : Type 0 where
  pub set : List (List Row)
  pub bytes : m ≡ encode set
  pub run : put_all [] ts ≡ becomes set

module _ {m : List ℕ} {ts : List (List ℕ)} (h : Holds m ts) where
  pub held_good : Good h.set
  held_good = run_good [] ts h.set none_good h.run

  pub held_formed : well_formed m ≡ true
  held_formed = ap well_formed h.bytes ∙ encode_good h.set held_good

  pub held_length : length h.set ≡ length ts
  held_length = let r = run_done [] ts h.set h.run in ap length r.is ∙ reads_length r.reads

  pub held_put : (place : ℕ) (t : List ℕ) → put m place t ≡ put_in h.set place t
  held_put place t = ap (λ (x : List ℕ). put x place t) h.bytes ∙ put_encoded h.set held_good place t

  pub held_edited : (place : ℕ) (t : List ℕ) → place ≤ length ts → put m place t ≡ put_all [] (edit ts place t)
  held_edited place t l = held_put place t ∙ edit_law ts h.set place t h.run l

  pub held_none : (place : ℕ) (t : List ℕ) → length ts < place → put m place t ≡ refuse NoSuchPlace place 0
  unfolding put_in
  held_none place t l = held_put place t ∙ rw (lt-ltb (length h.set) place (omega (arith, held_length)))

  held_place : (place : ℕ) (t : List ℕ) (d : List (List Row)) → put m place t ≡ becomes d → place ≤ length ts
  held_place place t d e = elim (dec_lt (length ts) place) [ yes l ↦ not_both (sym e ∙ held_none place t l) | no z ↦ omega arith ]

  -- a call that is refused leaves what is held, and one that is accepted changes it
  held_after : (x : Result) (us : List (List ℕ)) → ((d : List (List Row)) → x ≡ becomes d → put_all [] us ≡ becomes d) → Holds (memory_of m x) (if_done (answer_of x) us ts)
  unfolding memory_of answer_of if_done
  held_after (becomes d) us f = record { set = d; bytes = refl; run = f d refl }
  held_after (refuses r) us f = rw (not_done r) h

  pub after_put : (place : ℕ) (t : List ℕ) → Holds (memory_of m (put m place t)) (if_done (answer_of (put m place t)) (edit ts place t) ts)
  after_put place t = held_after (put m place t) (edit ts place t) (λ d e. sym (held_edited place t (held_place place t d e)) ∙ e)

pub built_holds : {m : List ℕ} {ts : List (List ℕ)} → Built m ts → Holds m ts
unfolding put_all memory_of
built_holds (opens m e) = record { set = []; bytes = ap (memory_of m) (opened_is m e); run = refl }
built_holds (puts b place t) = after_put (built_holds b) place t

-- ---- texts put in turn, on memory

record Each (x : Result) (o : Outcome) : Type 0 where
  answer : answer_of x ≡ o.answer
  memory : (d : List (List Row)) → x ≡ becomes d → encode d ≡ o.memory

-- a refusal ends it
stays : (ts : List (List ℕ)) (t m : List ℕ) (r : Refusal) → put_each (outcome m (refuses r)) (t ∷ ts) ≡ outcome m (refuses r)
unfolding put_each outcome answer_of memory_of
stays ts t m r = ap (λ (b : Bool). cond b (put_each (outcome m (put m r.place t)) ts) (outcome m (refuses r))) (not_done r)

each_put : (ts : List (List ℕ)) (m : List ℕ) (x : Result) → ((d : List (List Row)) → x ≡ becomes d → Good d) → Each (next x (λ d. put_all d ts)) (put_each (outcome m x) ts)
unfolding put_each put_all outcome answer_of memory_of set_counts
each_put [] m (becomes d) g = record { answer = refl; memory = λ y e. ap encode (sym (becomes_inj e)) }
each_put [] m (refuses r) g = record { answer = refl; memory = λ d e. not_both (sym e) }
each_put (t ∷ ts) m (becomes d) g =
    let a : put (encode d) (length d) t ≡ put_in d (length d) t = put_encoded d (g d refl) (length d) t in
    rw a (each_put ts (encode d) (put_in d (length d) t) (λ y e. put_good d (length d) t y (g d refl) e))
each_put (t ∷ ts) m (refuses r) g = subst (Each (refuses r)) (sym (stays ts t m r)) (record { answer = refl; memory = λ d e. not_both (sym e) })

each_run : (ts : List (List ℕ)) → Each (put_all [] ts) (put_each empty_set ts)
each_run ts = rw (← empty_outcome []) (each_put ts [] (becomes []) (λ d e. rw (← becomes_inj e) none_good))

-- ---- a put against the edited list

module _ {m : List ℕ} {ts : List (List ℕ)} (h : Holds m ts) where
  pub held_answer : (place : ℕ) (t : List ℕ) → place ≤ length ts → answer_of (put m place t) ≡ (put_each empty_set (edit ts place t)).answer
  held_answer place t l = ap answer_of (held_edited h place t l) ∙ (each_run (edit ts place t)).answer

  pub held_memory : (place : ℕ) (t : List ℕ) → place ≤ length ts → (answer_of (put m place t)).number ≡ 0 → memory_of m (put m place t) ≡ (put_each empty_set (edit ts place t)).memory
  unfolding memory_of
  held_memory place t l e =
      let d = done_becomes (put m place t) e in
      ap (memory_of m) d.1 ∙ (each_run (edit ts place t)).memory d.0 (sym (held_edited h place t l) ∙ d.1)

  pub held_nowhere : (place : ℕ) (t : List ℕ) → length ts < place → answer_of (put m place t) ≡ refused 21 place 0
  unfolding answer_of
  held_nowhere place t l = ap answer_of (held_none h place t l)

  -- the set is what putting its texts one by one gives
  pub held_is : (c : Counts) × (put_each empty_set ts ≡ record { answer = of_counts c; memory = m })
  unfolding answer_of
  held_is =
      let z = each_run ts in
      let a : (put_each empty_set ts).answer ≡ of_counts (set_counts h.set) = sym z.answer ∙ ap answer_of h.run in
      let b : (put_each empty_set ts).memory ≡ m = sym (z.memory h.set h.run) ∙ sym h.bytes in
      (set_counts h.set, λ i. record { answer = a i; memory = b i })

-- ---- what putting texts one by one gives is built

no_done : {A : Type 0} (ts : List (List ℕ)) (m : List ℕ) (f : Refusal) → (put_each (outcome m (refuses f)) ts).answer.number ≡ 0 → A
unfolding put_each outcome answer_of
no_done [] m f e = absurd (never_zero f.why e)
no_done (t ∷ ts) m f e = absurd (never_zero f.why (rw (not_done f) at e))

-- x is what the texts us gave
record From (x : Result) (us : List (List ℕ)) : Type 0 where
  good : (d : List (List Row)) → x ≡ becomes d → Good d
  long : (d : List (List Row)) → x ≡ becomes d → length d ≡ length us

from_more : (d : List (List Row)) (us : List (List ℕ)) (t : List ℕ) → Good d → length d ≡ length us → From (put (encode d) (length d) t) (us ++ (t ∷ []))
from_more d us t g n = record {
  good = λ y e. put_good d (length d) t y g (sym (put_encoded d g (length d) t) ∙ e);
  long = λ y e. (let a = last_done d t y (sym (put_encoded d g (length d) t) ∙ e) in ap length a.is ∙ length-append d (a.rows ∷ []) ∙ omega (arith, length-append us (t ∷ [])));
}

one_more : (m : List ℕ) (x : Result) (ts us : List (List ℕ)) (t : List ℕ) → Built (memory_of m x) (if_done (answer_of x) (us ++ (t ∷ [])) us) → (put_each (outcome m x) ts).answer.number ≡ 0
    → (Built (memory_of m x) (us ++ (t ∷ [])) → Built (put_each (outcome m x) ts).memory ((us ++ (t ∷ [])) ++ ts)) → Built (put_each (outcome m x) ts).memory (us ++ (t ∷ ts))
unfolding if_done answer_of
one_more m (becomes d) ts us t b e more = rw (← append_assoc us (t ∷ []) ts) (more b)
one_more m (refuses f) ts us t b e more = no_done ts m f e

each_built : (ts us : List (List ℕ)) (m : List ℕ) (x : Result) → From x us → Built (memory_of m x) us → (put_each (outcome m x) ts).answer.number ≡ 0 → Built (put_each (outcome m x) ts).memory (us ++ ts)
unfolding put_each outcome answer_of memory_of set_counts
each_built [] us m x w b e = rw (append-nil us) b
each_built (t ∷ ts) us m (becomes d) w b e =
    let n : length d ≡ length us = w.long d refl in
    let l : edit us (length d) t ≡ us ++ (t ∷ []) = ap (λ (i : ℕ). edit us i t) n ∙ edit_last us t in
    one_more (encode d) (put (encode d) (length d) t) ts us t (rw l at (puts b (length d) t)) e
    (λ c. each_built ts (us ++ (t ∷ [])) (encode d) (put (encode d) (length d) t) (from_more d us t (w.good d refl) n) c e)
each_built (t ∷ ts) us m (refuses f) w b e = no_done (t ∷ ts) m f e

pub accepted_built : (ts : List (List ℕ)) → (put_each empty_set ts).answer.number ≡ 0 → Built (put_each empty_set ts).memory ts
unfolding memory_of
accepted_built ts e = rw (← o) (each_built ts [] m (becomes []) w (rw (opened_is m n) at (opens m n)) (rw (← o) at e))
  where
    m : List ℕ
    m = zeros layout_length

    n : length m ≡ layout_length
    n = length-replicate {A = ℕ} layout_length 0

    o : outcome m (becomes []) ≡ empty_set
    o = empty_outcome m

    w : From (becomes []) []
    w = record { good = λ d e. rw (← becomes_inj e) none_good; long = λ d e. ap length (sym (becomes_inj e)) }
