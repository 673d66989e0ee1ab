-- What an accepted step tells, and what it keeps.
-- Assumes nothing.
use mathlib.Core.Path.{◌≡◌, refl, sym, ap, ◌∙◌}
use mathlib.Core.Bool.{Bool, true, false, cond}
use mathlib.Core.List.{List, [], ◌∷◌, ◌++◌, append_assoc, append-nil}
use Prim.Native.Nat.{ℕ, zero, suc, ◌+◌, ◌<◌, ◌≤◌}
use native.Mathlib.Nat.{le_refl}
use native.Mathlib.Omega.{arith}
use lib.Dec.{ltb}
use lib.ListN.{length, take, drop, length-append, length-take, length-drop, drop_of_length-le}
use lib.Seq.{take_all}
use borrow.Author.Tests.{lt-ltb, le-ltb, ltb-false}
use Rattle.std.specs.Prelude.{Ok, Err}
use Rattle.answer.specs.declared.refusal.Why.TheVariants.{TooManyDeclarations}
use Rattle.answer.specs.declared.refusal.Refusal.{Refusal}
use Rattle.ground.proofs.Laws.{and_true}
use Rattle.name.specs.Name.{every}
use Rattle.json_scan.specs.Json.{scanned, Verdict}
use Rattle.row.specs.Layout.{declaration_limit, row_limit, string_limit}
use Rattle.row.specs.Rows.{Row, texts}
use Rattle.row.specs.Sets.{flat}
use Rattle.resolve.specs.Rules.{is_declaration}
use Rattle.resolve.specs.Resolve.{Resolution, fault_in}
use Rattle.fits.specs.Misfits.{misfit_in}
use Rattle.formed.specs.WellFormed.{Good}
use Rattle.formed.proofs.Laws.{cut_good, more_good}
use Rattle.schema.specs.Out.{Out, refused, read}
use Rattle.schema.specs.Schema.{rows_of, on_scan, declared}
use Rattle.kept.proofs.Kept.{kept}
use Rattle.set.specs.Lists.{Result, becomes, refuses, refuse, next, on_rows, on_resolved, append, append_all, put_in}
use Rattle.set.proofs.Laws.{append_last}
use Rattle.demands.specs.Building.{edit}

-- ---- one step

pub becomes_inj : {a b : List (List Row)} → becomes a ≡ becomes b → a ≡ b
becomes_inj e = cc

pub read_inj : {a b : List Row} → read a ≡ read b → a ≡ b
read_inj e = cc

pub not_both : {A : Type 0} {ds : List (List Row)} {r : Refusal} → becomes ds ≡ refuses r → A
not_both e = let z : ◌≡◌ {A = ℕ} 0 1 = cc in absurd (omega arith)

-- a test that must hold, and one that must not
pub must_hold : (b : Bool) (x : Result) (r : Refusal) (d : List (List Row)) → cond b x (refuses r) ≡ becomes d → (b ≡ true) × (x ≡ becomes d)
must_hold true x r d e = (refl, e)
must_hold false x r d e = not_both (sym e)

pub must_not : (b : Bool) (r : Refusal) (x : Result) (d : List (List Row)) → cond b (refuses r) x ≡ becomes d → (b ≡ false) × (x ≡ becomes d)
must_not true r x d e = not_both (sym e)
must_not false r x d e = (refl, e)

pub resolved_done : (f : Resolution) (place : ℕ) (x : Result) (d : List (List Row)) → on_resolved f place x ≡ becomes d → (f ≡ Ok tt) × (x ≡ becomes d)
resolved_done (Ok _) place x d e = (refl, e)
resolved_done (Err f) place x d e = not_both (sym e)

pub rows_done : (o : Out) (place : ℕ) (step : List Row → Result) (d : List (List Row)) → on_rows o place step ≡ becomes d → (rows : List Row) × (o ≡ read rows) × (step rows ≡ becomes d)
rows_done (refused f) place step d e = not_both (sym e)
rows_done (read rows) place step d e = (rows, refl, e)

pub next_done : (x : Result) (step : List (List Row) → Result) (d : List (List Row)) → next x step ≡ becomes d → (y : List (List Row)) × (x ≡ becomes y) × (step y ≡ becomes d)
next_done (becomes y) step d e = (y, refl, e)
next_done (refuses r) step d e = not_both (sym e)

pub next_same : (x : Result) (f g : List (List Row) → Result) → ((d : List (List Row)) → x ≡ becomes d → f d ≡ g d) → next x f ≡ next x g
next_same (becomes d) f g h = h d refl
next_same (refuses r) f g h = refl

pub next_next : (x : Result) (f g : List (List Row) → Result) → next (next x f) g ≡ next x (λ d. next (f d) g)
next_next (becomes d) f g = refl
next_next (refuses r) f g = refl

-- ---- one declaration more

pub record Appended (ds : List (List Row)) (rows : List Row) (d : List (List Row)) : Type 0 where
  pub fit : length (flat ds) + length rows ≤ row_limit
  pub room : length (texts (flat ds)) + length (texts rows) ≤ string_limit
  pub resolved : fault_in (flat ds) rows ≡ Ok tt
  pub fitting : misfit_in (flat ds ++ rows) rows ≡ Ok tt
  pub is : d ≡ ds ++ (rows ∷ [])

pub append_done : (ds : List (List Row)) (rows : List Row) (d : List (List Row)) → append ds rows ≡ becomes d → Appended ds rows d
unfolding append
append_done ds rows d e =
    let p = must_not (ltb row_limit (length (flat ds) + length rows)) _ _ d e in
    let q = must_not (ltb string_limit (length (texts (flat ds)) + length (texts rows))) _ _ d p.1 in
    let z = resolved_done (fault_in (flat ds) rows) _ _ d q.1 in
    let w = resolved_done (misfit_in (flat ds ++ rows) rows) _ _ d z.1 in
    record { fit = ltb-false _ _ p.0; room = ltb-false _ _ q.0; resolved = z.0; fitting = w.0; is = sym (becomes_inj w.1) }

pub appends_are : (a b d : List (List Row)) → append_all a b ≡ becomes d → d ≡ a ++ b
unfolding append_all
appends_are a [] d e = sym (becomes_inj e) ∙ sym (append-nil a)
appends_are a (rows ∷ b) d e =
    let p = next_done (append a rows) (λ x. append_all x b) d e in
    appends_are p.0 b d p.2 ∙ ap (λ (x : List (List Row)). x ++ b) (append_done a rows p.0 p.1).is ∙ append_assoc a (rows ∷ []) b

-- ---- a text put at a place

pub record Put (ds : List (List Row)) (place : ℕ) (t : List ℕ) (d : List (List Row)) : Type 0 where
  pub rows : List Row
  pub there : place ≤ length ds
  pub few : place < declaration_limit
  pub reads : declared t ≡ read rows
  pub then : append_all (take place ds) (rows ∷ drop (place + 1) ds) ≡ becomes d
  pub is : d ≡ edit ds place rows

pub put_done : (ds : List (List Row)) (place : ℕ) (t : List ℕ) (d : List (List Row)) → put_in ds place t ≡ becomes d → Put ds place t d
unfolding put_in edit
put_done ds place t d e =
    let p = must_not (ltb (length ds) place) _ _ d e in
    let f = must_not (ltb declaration_limit (place + 1)) _ _ d p.1 in
    let q = rows_done (declared t) place (λ rows. append_all (take place ds) (rows ∷ drop (place + 1) ds)) d f.1 in
    record {
      rows = q.0;
      there = ltb-false _ _ p.0;
      few = omega (arith, ltb-false declaration_limit (place + 1) f.0);
      reads = q.1;
      then = q.2;
      is = appends_are (take place ds) (q.0 ∷ drop (place + 1) ds) d q.2;
    }

-- ---- at the count: one declaration more

pub edit_last : {A : Type 0} (xs : List A) (x : A) → edit xs (length xs) x ≡ xs ++ (x ∷ [])
unfolding edit
edit_last xs x =
    let k : length xs ≤ length xs + 1 = omega arith in
    rw (take_all (length xs) xs (le_refl _), drop_of_length-le xs k)

-- 22
pub last_full : (ds : List (List Row)) (t : List ℕ) → declaration_limit ≤ length ds → put_in ds (length ds) t ≡ refuse TooManyDeclarations declaration_limit 0
unfolding put_in
last_full ds t l =
    let k : declaration_limit < length ds + 1 = omega arith in
    rw (le-ltb (length ds) (length ds) (le_refl _), lt-ltb declaration_limit (length ds + 1) k)

pub last_is : (ds : List (List Row)) (t : List ℕ) → length ds < declaration_limit → put_in ds (length ds) t ≡ on_rows (declared t) (length ds) (append ds)
unfolding put_in
last_is ds t l =
    let k : length ds + 1 ≤ declaration_limit = omega arith in
    rw (le-ltb (length ds) (length ds) (le_refl _), le-ltb declaration_limit (length ds + 1) k) (go (declared t))
  where
    go : (o : Out) → on_rows o (length ds) (λ rows. append_all (take (length ds) ds) (rows ∷ drop (length ds + 1) ds)) ≡ on_rows o (length ds) (append ds)
    go (refused f) = refl
    go (read rows) = append_last ds (length ds) rows (le_refl _)

pub record Last (ds : List (List Row)) (t : List ℕ) (d : List (List Row)) : Type 0 where
  pub rows : List Row
  pub few : length ds < declaration_limit
  pub reads : declared t ≡ read rows
  pub then : append ds rows ≡ becomes d
  pub is : d ≡ ds ++ (rows ∷ [])

pub last_done : (ds : List (List Row)) (t : List ℕ) (d : List (List Row)) → put_in ds (length ds) t ≡ becomes d → Last ds t d
last_done ds t d e =
    let p = put_done ds (length ds) t d e in
    let a : append ds p.rows ≡ becomes d = sym (append_last ds (length ds) p.rows (le_refl _)) ∙ p.then in
    record { rows = p.rows; few = p.few; reads = p.reads; then = a; is = (append_done ds p.rows d a).is }

-- ---- the rules are kept

no_read : {A : Type 0} {f : _} {rows : List Row} → refused f ≡ read rows → A
no_read e = let z : ◌≡◌ {A = ℕ} 0 1 = cc in absurd (omega arith)

-- a text that is read was scanned whole
pub read_scanned : (t : List ℕ) (rows : List Row) → declared t ≡ read rows → (scanned t ≡ Ok tt) × (rows_of t ≡ read rows)
unfolding declared
read_scanned t rows e = go (scanned t) e
  where
    go : (s : Verdict) → on_scan s (rows_of t) ≡ read rows → (s ≡ Ok tt) × (rows_of t ≡ read rows)
    go (Ok u) h = (refl, h)
    go (Err f) h = no_read h

-- its rows keep the rules
pub read_kept : (t : List ℕ) (rows : List Row) → declared t ≡ read rows → is_declaration rows ≡ true
read_kept t rows e = let s = read_scanned t rows e in kept t rows s.0 s.1

pub append_good : (ds : List (List Row)) (rows : List Row) (d : List (List Row)) → Good ds → is_declaration rows ≡ true → length ds < declaration_limit → append ds rows ≡ becomes d → Good d
append_good ds rows d g h few e =
    let a = append_done ds rows d e in
    rw a.is (more_good ds rows g few a.fit a.room h a.resolved a.fitting)

pub appends_good : (a b d : List (List Row)) → Good a → every is_declaration b ≡ true → length a + length b ≤ declaration_limit → append_all a b ≡ becomes d → Good d
unfolding append_all every
appends_good a [] d g h few e = rw (← becomes_inj e) g
appends_good a (rows ∷ b) d g h few e =
    let p = next_done (append a rows) (λ x. append_all x b) d e in
    let q = and_true (is_declaration rows) (every is_declaration b) h in
    let n : length p.0 ≡ length a + 1 = ap length (append_done a rows p.0 p.1).is ∙ length-append a (rows ∷ []) in
    appends_good p.0 b d (append_good a rows p.0 g q.0 (omega arith) p.1) q.1 (omega arith) p.2

every_drop : {A : Type 0} (test : A → Bool) (k : ℕ) (xs : List A) → every test xs ≡ true → every test (drop k xs) ≡ true
unfolding every
every_drop test zero xs h = h
every_drop test (suc k) [] h = h
every_drop test (suc k) (x ∷ xs) h = every_drop test k xs (and_true (test x) (every test xs) h).1

pub put_good : (ds : List (List Row)) (place : ℕ) (t : List ℕ) (d : List (List Row)) → Good ds → put_in ds place t ≡ becomes d → Good d
unfolding every
put_good ds place t d g e =
    let a = put_done ds place t d e in
    let h : every is_declaration (a.rows ∷ drop (place + 1) ds) ≡ true = rw (read_kept t a.rows a.reads) (every_drop is_declaration (place + 1) ds g.declarations) in
    let n : length (take place ds) + suc (length (drop (place + 1) ds)) ≤ declaration_limit = omega (arith, length-take place ds, length-drop (place + 1) ds, g.few, a.there, a.few) in
    appends_good (take place ds) (a.rows ∷ drop (place + 1) ds) d (cut_good ds place g) h n a.then
