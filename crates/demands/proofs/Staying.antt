-- What stands before the place stays, and what a later declaration is refused for.
-- Assumes nothing.
use mathlib.Core.Path.{◌≡◌, refl, sym, ap, subst, ◌∙◌}
use mathlib.Core.Bool.{Bool, true, false, cond}
use mathlib.Core.List.{List, [], ◌∷◌, ◌++◌, append_assoc, append-nil}
use Prim.Native.Nat.{ℕ, ◌+◌, ◌<◌, ◌≤◌}
use native.Mathlib.Nat.{le_refl}
use native.Mathlib.Omega.{arith}
use lib.Dec.{ltb}
use lib.ListN.{length, take, drop, length-append, length-take, length-drop, take-append-drop}
use lib.Seq.{take_at}
use borrow.Author.Tests.{ltb-true, ltb-false}
use Rattle.answer.specs.Places.{placed}
use Rattle.answer.specs.declared.refusal.Why.{Why}
use Rattle.answer.specs.declared.refusal.Why.TheVariants.{NoSuchPlace, TooManyDeclarations}
use Rattle.answer.specs.declared.refusal.Refusal.{Refusal}
use Rattle.answer.specs.declared.numbers.Numbers.{Numbers}
use Rattle.answer.specs.Answers.{of_refusal}
use Rattle.row.specs.Layout.{declaration_limit}
use Rattle.row.specs.Rows.{Row}
use Rattle.row.specs.Sets.{encode, decode, Within}
use Rattle.row.proofs.Laws.{same_sizes, same_rows, same_texts}
use Rattle.formed.specs.WellFormed.{Good, well_formed}
use Rattle.formed.proofs.Laws.{exact, good_within}
use Rattle.schema.specs.Out.{Out, refused, read}
use Rattle.schema.specs.Schema.{declared}
use Rattle.set.specs.Lists.{Result, becomes, refuses, refuse, next, on_rows, append, append_all, put_in}
use Rattle.set.specs.Calls.{answer_of, memory_of, put}
use Rattle.set.proofs.Laws.{put_formed}
use Rattle.demands.specs.Building.{edit, At, first, behind, SameFront, LaterBarred}
use Rattle.demands.proofs.Steps.{not_both, append_done, put_done, put_good}
use Rattle.demands.proofs.Holding.{done_becomes, refused_refuses}
use Rattle.demands.proofs.Joining.{append_barred}

-- ---- bytes

same_front : (a b c : List (List Row)) → Within (a ++ b) → Within (a ++ c) → SameFront a (encode (a ++ b)) (encode (a ++ c))
same_front a b c v w = record { counts = same_sizes a b c v w; rows = same_rows a b c v w; strings = same_texts a b c v w }

-- the same of memories and sets that are equal to these
front_of : (a b c d e : List (List Row)) (m n : List ℕ) → d ≡ a ++ b → e ≡ a ++ c → Good d → Good e → m ≡ encode d → n ≡ encode e → SameFront a m n
front_of a b c d e m n p q g h j k = rw (j, k, p, q) (same_front a b c (rw p at (good_within d g)) (rw q at (good_within e h)))

module _ (m : List ℕ) (wf : well_formed m ≡ true) where
  pub put_front : (place : ℕ) (t : List ℕ) → (answer_of (put m place t)).number ≡ 0 → SameFront (take place (decode m)) (memory_of m (put m place t)) m
  unfolding memory_of edit
  put_front place t e =
      let d = done_becomes (put m place t) e in
      let f : put_in (decode m) place t ≡ becomes d.0 = sym (put_formed m wf place t) ∙ d.1 in
      let r = put_done (decode m) place t d.0 f in
      let x = exact m wf in
      front_of (take place (decode m)) (r.rows ∷ drop (place + 1) (decode m)) (drop place (decode m)) d.0 (decode m) _ _
      r.is (sym (take-append-drop place (decode m))) (put_good (decode m) place t d.0 x.1 f) x.1 (ap (memory_of m) d.1) x.0

-- ---- places in a list

at_here : {A : Type 0} (xs : List A) (x : A) (ys : List A) → At (xs ++ (x ∷ ys)) (length xs) x
at_here [] x ys = first
at_here (y ∷ xs) x ys = behind (at_here xs x ys)

at_split : {A : Type 0} (zs xs : List A) (x : A) (ys : List A) (k : ℕ) → zs ≡ xs ++ (x ∷ ys) → length xs ≡ k → At zs k x
at_split zs xs x ys k p q = rw (p, ← q) (at_here xs x ys)

-- ---- the first that is refused

record Stopped (a b : List (List Row)) (r : Refusal) : Type 0 where
  front : List (List Row)
  rows : List Row
  rest : List (List Row)
  parts : b ≡ front ++ (rows ∷ rest)
  refuse_it : append (a ++ front) rows ≡ refuses r

appends_stop : (a b : List (List Row)) (r : Refusal) → append_all a b ≡ refuses r → Stopped a b r
unfolding append_all
appends_stop a [] r e = not_both e
appends_stop a (rows ∷ b) r e = go (append a rows) refl (λ d. appends_stop d b r) e
  where
    go : (x : Result) → append a rows ≡ x → ((d : List (List Row)) → append_all d b ≡ refuses r → Stopped d b r) → next x (λ d. append_all d b) ≡ refuses r → Stopped a (rows ∷ b) r
    go (refuses s) p more f = record { front = []; rows = rows; rest = b; parts = refl; refuse_it = rw (append-nil a) (p ∙ f) }
    go (becomes d) p more f =
        let z = more d f in
        let i : d ≡ a ++ (rows ∷ []) = (append_done a rows d p).is in
        record {
          front = rows ∷ z.front;
          rows = z.rows;
          rest = z.rest;
          parts = ap (λ (x : List (List Row)). rows ∷ x) z.parts;
          refuse_it = ap (λ (x : List (List Row)). append x z.rows) (sym (append_assoc a (rows ∷ []) z.front) ∙ ap (λ (x : List (List Row)). x ++ z.front) (sym i)) ∙ z.refuse_it;
        }

-- from the place on, where the place itself is not at fault
module _ (ds : List (List Row)) (place : ℕ) (t : List ℕ) (r : Refusal) (past : place < r.place) where
  module _ (new : List Row) (l : place ≤ length ds) (h : declared t ≡ read new) (rows : List Row) (rest : List (List Row)) where
    stopped_later : (front : List (List Row)) → new ∷ drop (place + 1) ds ≡ front ++ (rows ∷ rest) → append (take place ds ++ front) rows ≡ refuses r → LaterBarred ds place t (of_refusal r)
    unfolding edit
    stopped_later front p e =
        let b = append_barred (take place ds ++ front) rows r e in
        let n : length (take place ds) ≡ place = length-take place ds ∙ omega arith in
        let k : r.place ≡ length (take place ds ++ front) = ap (λ (x : Refusal). x.place) b.2 in
        let j : length (take place ds ++ front) ≡ length (take place ds) + length front = length-append (take place ds) front in
        let s : take place ds ++ (new ∷ drop (place + 1) ds) ≡ (take place ds ++ front) ++ (rows ∷ rest) = ap (λ (x : List (List Row)). take place ds ++ x) p ∙ sym (append_assoc (take place ds) front (rows ∷ rest)) in
        let c : take r.place (take place ds ++ (new ∷ drop (place + 1) ds)) ≡ take place ds ++ front = ap (take r.place) s ∙ take_at (take place ds ++ front) (rows ∷ rest) r.place (sym k) in
        record {
          new = new;
          reads = h;
          rows = rows;
          recorded = there front p (omega arith);
          fault = b.0;
          barred = rw c b.1;
          is = ap of_refusal (b.2 ∙ ap (placed b.0) (sym k));
        }
      where
        there : (front : List (List Row)) → new ∷ drop (place + 1) ds ≡ front ++ (rows ∷ rest) → r.place ≡ place + length front → At ds r.place rows
        there [] p k = absurd (omega arith)
        there (x ∷ front) p k =
            let q : drop (place + 1) ds ≡ front ++ (rows ∷ rest) = cc in
            let s : ds ≡ (take (place + 1) ds ++ front) ++ (rows ∷ rest) = sym (take-append-drop (place + 1) ds) ∙ ap (λ (y : List (List Row)). take (place + 1) ds ++ y) q ∙ sym (append_assoc (take (place + 1) ds) front (rows ∷ rest)) in
            at_split ds (take (place + 1) ds ++ front) rows rest r.place s (omega (arith, length-append (take (place + 1) ds) front, length-take (place + 1) ds, length-drop (place + 1) ds, ap length q, length-append front (rows ∷ rest)))

  -- a refusal at a place that is not behind it
  not_past : {A : Type 0} (w : Why) (k at : ℕ) → k ≤ place → refuse w k at ≡ refuses r → A
  not_past w k at l e = let y : record { why = w; place = k; at = at } ≡ r = cc in absurd (omega (arith, ap (λ (x : Refusal). x.place) y))

  later_on : (a b : Bool) (o : Out) → ltb (length ds) place ≡ a → ltb declaration_limit (place + 1) ≡ b → declared t ≡ o
      → cond a (refuse NoSuchPlace place 0) (cond b (refuse TooManyDeclarations declaration_limit 0) (on_rows o place (λ rows. append_all (take place ds) (rows ∷ drop (place + 1) ds)))) ≡ refuses r
      → LaterBarred ds place t (of_refusal r)
  later_on true b o p c q e = not_past NoSuchPlace place 0 (le_refl _) e
  later_on false true o p c q e = not_past TooManyDeclarations declaration_limit 0 (omega (arith, ltb-true declaration_limit (place + 1) c)) e
  later_on false false (refused f) p c q e = not_past f.why place f.at (le_refl _) e
  later_on false false (read new) p c q e =
      let z = appends_stop (take place ds) (new ∷ drop (place + 1) ds) r e in
      stopped_later new (ltb-false _ _ p) q z.rows z.rest z.front z.parts z.refuse_it

  pub later_barred : put_in ds place t ≡ refuses r → LaterBarred ds place t (of_refusal r)
  unfolding put_in
  later_barred e = later_on (ltb (length ds) place) (ltb declaration_limit (place + 1)) (declared t) refl refl refl e

-- of memory, by the answer's numbers
pub put_later : (m : List ℕ) → well_formed m ≡ true → (place : ℕ) (t : List ℕ) → ((answer_of (put m place t)).number ≡ 0 → ⊥) → place < (answer_of (put m place t)).first
    → LaterBarred (decode m) place t (answer_of (put m place t))
unfolding answer_of
put_later m wf place t h l =
    let f = refused_refuses (put m place t) h in
    let e : answer_of (put m place t) ≡ of_refusal f.0 = ap answer_of f.1 in
    subst (λ (n : Numbers). LaterBarred (decode m) place t n) (sym e)
    (later_barred (decode m) place t f.0 (subst (λ (n : Numbers). place < n.first) e l) (sym (put_formed m wf place t) ∙ f.1))
