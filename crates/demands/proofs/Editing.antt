-- The edited list, on lists of rows: a put at a place is what putting the edited list of texts at the end gives.
-- Assumes nothing.
use mathlib.Core.Path.{◌≡◌, refl, sym, ap, ap₂, ◌∙◌}
use mathlib.Core.List.{List, [], ◌∷◌, ◌++◌, append_assoc, append-nil}
use Prim.Native.Nat.{ℕ, zero, suc, ◌+◌, ◌<◌, ◌≤◌}
use native.Mathlib.Omega.{arith}
use native.Mathlib.Decide.{dec_lt}
use lib.ListN.{length, take, drop, length-append, length-take, length-drop, take-append-drop}
use borrow.Author.Tests.{le-ltb}
use Rattle.row.specs.Layout.{declaration_limit}
use Rattle.row.specs.Rows.{Row}
use Rattle.formed.specs.WellFormed.{Good}
use Rattle.schema.specs.Out.{Out, refused, read}
use Rattle.schema.specs.Schema.{declared}
use Rattle.set.specs.Lists.{Result, becomes, next, on_rows, append, append_all, put_in}
use Rattle.demands.specs.Building.{edit}
use Rattle.demands.proofs.Steps.{becomes_inj, read_inj, next_done, next_same, next_next, append_done, last_full, last_is, last_done, put_good}

-- the texts are put in turn, each at the count
unfoldable pub put_all : List (List Row) → List (List ℕ) → Result
put_all ds [] = becomes ds
put_all ds (t ∷ ts) = next (put_in ds (length ds) t) (λ d. put_all d ts)

-- each text is read, and these are the rows of each
pub data Reads : List (List ℕ) → List (List Row) → Type 0 where
  none : Reads [] []
  more : {t : List ℕ} {rows : List Row} {ts : List (List ℕ)} {ds : List (List Row)} → declared t ≡ read rows → Reads ts ds → Reads (t ∷ ts) (rows ∷ ds)

reads_one : {ts : List (List ℕ)} {a b : List (List Row)} → Reads ts a → Reads ts b → a ≡ b
reads_one none none = refl
reads_one (more e r) (more f s) = ap₂ (λ (x : List Row) (y : List (List Row)). x ∷ y) (read_inj (sym e ∙ f)) (reads_one r s)

reads_take : (k : ℕ) {ts : List (List ℕ)} {ds : List (List Row)} → Reads ts ds → Reads (take k ts) (take k ds)
reads_take zero r = none
reads_take (suc k) none = none
reads_take (suc k) (more e r) = more e (reads_take k r)

reads_drop : (k : ℕ) {ts : List (List ℕ)} {ds : List (List Row)} → Reads ts ds → Reads (drop k ts) (drop k ds)
reads_drop zero r = r
reads_drop (suc k) none = none
reads_drop (suc k) (more e r) = reads_drop k r

pub reads_length : {ts : List (List ℕ)} {ds : List (List Row)} → Reads ts ds → length ds ≡ length ts
reads_length none = refl
reads_length (more e r) = ap suc (reads_length r)

-- ---- runs

pub run_append : (ds : List (List Row)) (ts us : List (List ℕ)) → put_all ds (ts ++ us) ≡ next (put_all ds ts) (λ d. put_all d us)
unfolding put_all
run_append ds [] us = refl
run_append ds (t ∷ ts) us = next_same (put_in ds (length ds) t) _ _ (λ d e. run_append d ts us) ∙ sym (next_next (put_in ds (length ds) t) (λ d. put_all d ts) (λ d. put_all d us))

pub record Ran (ds : List (List Row)) (ts : List (List ℕ)) (d : List (List Row)) : Type 0 where
  pub rows : List (List Row)
  pub reads : Reads ts rows
  pub few : length ds ≤ declaration_limit → length ds + length ts ≤ declaration_limit
  pub is : d ≡ ds ++ rows

pub run_done : (ds : List (List Row)) (ts : List (List ℕ)) (d : List (List Row)) → put_all ds ts ≡ becomes d → Ran ds ts d
unfolding put_all
run_done ds [] d e = record { rows = []; reads = none; few = λ h. omega arith; is = sym (becomes_inj e) ∙ sym (append-nil ds) }
run_done ds (t ∷ ts) d e =
    let p = next_done (put_in ds (length ds) t) (λ x. put_all x ts) d e in
    let y = p.0 in
    let a = last_done ds t y p.1 in
    let r = run_done y ts d p.2 in
    let l : length y ≡ length ds + 1 = ap length a.is ∙ length-append ds _ in
    record {
      rows = a.rows ∷ r.rows;
      reads = more a.reads r.reads;
      few = λ h. omega (arith, a.few, r.few (omega (arith, a.few)));
      is = r.is ∙ ap (λ (x : List (List Row)). x ++ r.rows) a.is ∙ append_assoc ds (a.rows ∷ []) r.rows;
    }

pub run_good : (ds : List (List Row)) (ts : List (List ℕ)) (d : List (List Row)) → Good ds → put_all ds ts ≡ becomes d → Good d
unfolding put_all
run_good ds [] d g e = rw (← becomes_inj e) g
run_good ds (t ∷ ts) d g e =
    let p = next_done (put_in ds (length ds) t) (λ x. put_all x ts) d e in
    run_good p.0 ts d (put_good ds (length ds) t p.0 g p.1) p.2

-- texts that are read and fit in number: putting them at the end is appending their rows
pub run_appends : (ds : List (List Row)) {ts : List (List ℕ)} {rest : List (List Row)} → Reads ts rest → length ds + length ts ≤ declaration_limit → put_all ds ts ≡ append_all ds rest
unfolding put_all append_all
run_appends ds none l = refl
run_appends ds (more {t} {rows} e r) l =
    let k : length ds < declaration_limit = omega arith in
    rw (last_is ds t k, e)
    (next_same (append ds rows) _ _ (λ d f. run_appends d r (omega (arith, ap length (append_done ds rows d f).is ∙ length-append ds _))))

-- the front of an accepted run is accepted
pub run_front : (k : ℕ) (ts : List (List ℕ)) (d : List (List Row)) → put_all [] ts ≡ becomes d → put_all [] (take k ts) ≡ becomes (take k d)
run_front k ts d e =
    let s : put_all [] (take k ts ++ drop k ts) ≡ becomes d = rw (take-append-drop k ts) e in
    let p = next_done (put_all [] (take k ts)) (λ x. put_all x (drop k ts)) d (sym (run_append [] (take k ts) (drop k ts)) ∙ s) in
    let a = run_done [] (take k ts) p.0 p.1 in
    let b = run_done [] ts d e in
    p.1 ∙ ap becomes (a.is ∙ reads_one a.reads (reads_take k b.reads) ∙ ap (take k) (sym b.is))

-- from the place on
edit_rest : (t : List ℕ) (later : List (List ℕ)) (y rest : List (List Row)) → length y + length later < declaration_limit → Reads later rest
    → put_all y (t ∷ later) ≡ on_rows (declared t) (length y) (λ rows. append_all y (rows ∷ rest))
unfolding put_all append_all
edit_rest t later y rest few r =
    let k : length y < declaration_limit = omega arith in
    rw (last_is y t k) (go (declared t))
  where
    go : (o : Out) → next (on_rows o (length y) (append y)) (λ d. put_all d later) ≡ on_rows o (length y) (λ rows. next (append y rows) (λ d. append_all d rest))
    go (refused f) = refl
    go (read rows) = next_same (append y rows) _ _ (λ d g. run_appends d r (omega (arith, ap length (append_done y rows d g).is ∙ length-append y _)))

module _ (ts : List (List ℕ)) (d : List (List Row)) (place : ℕ) (t : List ℕ) (e : put_all [] ts ≡ becomes d) (l : place ≤ length ts) where
  ran : Ran [] ts d
  ran = run_done [] ts d e

  reads_set : Reads ts d
  reads_set = rw ran.is ran.reads

  held : length d ≡ length ts
  held = reads_length reads_set

  few_texts : length ts ≤ declaration_limit
  few_texts = omega (arith, ran.few (omega arith))

  before_place : length (take place d) ≡ place
  before_place = length-take place d ∙ omega (arith, held)

  -- the edited list, its front being put
  edit_runs : put_all [] (edit ts place t) ≡ put_all (take place d) (t ∷ drop (place + 1) ts)
  unfolding edit
  edit_runs = run_append [] (take place ts) (t ∷ drop (place + 1) ts) ∙ ap (λ (x : Result). next x (λ y. put_all y (t ∷ drop (place + 1) ts))) (run_front place ts d e)

  edit_fits : place < declaration_limit → put_in d place t ≡ put_all [] (edit ts place t)
  unfolding put_in
  edit_fits k =
      let j : place + 1 ≤ declaration_limit = omega arith in
      let h : length (take place d) + length (drop (place + 1) ts) < declaration_limit = omega (arith, before_place, few_texts, length-drop (place + 1) ts) in
      let r = edit_rest t (drop (place + 1) ts) (take place d) (drop (place + 1) d) h (reads_drop (place + 1) reads_set) in
      rw (le-ltb (length d) place (omega (arith, held)), le-ltb declaration_limit (place + 1) j)
      (sym (edit_runs ∙ r ∙ ap (λ (n : ℕ). on_rows (declared t) n (λ rows. append_all (take place d) (rows ∷ drop (place + 1) d))) before_place))

  -- the place behind the last of a full set: 22, as for the last of the edited list
  edit_full : declaration_limit ≤ place → put_in d place t ≡ put_all [] (edit ts place t)
  unfolding put_all
  edit_full k =
      let n : place ≡ length d = omega (arith, held, few_texts) in
      let f : declaration_limit ≤ length (take place d) = omega (arith, before_place) in
      let h : declaration_limit ≤ length d = omega (arith, n) in
      (ap (λ (i : ℕ). put_in d i t) n ∙ last_full d t h)
      ∙ sym (edit_runs ∙ ap (λ (x : Result). next x (λ y. put_all y (drop (place + 1) ts))) (last_full (take place d) t f))

  -- THE EDIT: a text put at a place is the edited list put at the end of the empty set
  pub edit_law : put_in d place t ≡ put_all [] (edit ts place t)
  edit_law = elim (dec_lt place declaration_limit) [ yes k ↦ edit_fits k | no k ↦ edit_full (omega arith) ]
