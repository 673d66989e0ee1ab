-- What a refused put tells. 20, 21 and 22 are of the memory and the place, and exactly that. 7 is of the text that is put, and tells where a string of it
-- breaks its rule: what the set already has is not asked again.
-- Assumes nothing.
use mathlib.Core.Path.{◌≡◌, refl, sym, ap, ◌∙◌}
use mathlib.Core.Bool.{Bool, true, false, not, cond, ◌&&◌, ◌||◌}
use mathlib.Core.List.{List, [], ◌∷◌, ◌++◌}
use Prim.Native.Nat.{ℕ, ◌+◌, ◌<◌, ◌≤◌}
use native.Mathlib.Omega.{arith}
use lib.Dec.{eqb, ltb}
use lib.ListN.{length, take, drop}
use borrow.Author.Tests.{lt-ltb, le-ltb, ltb-true, ltb-false, eq-eqb, eqb-true}
use Rattle.std.specs.Prelude.{Ok, Err}
use Rattle.answer.specs.declared.refusal.Why.{Why}
use Rattle.answer.specs.declared.refusal.Why.TheVariants.{NotAName, NotWellFormed, NoSuchPlace, TooManyDeclarations, TooManyRows, TooManyStringBytes, DefinedAlready, ReferenceUnknown}
use Rattle.answer.specs.declared.refusal.Refusal.{Refusal}
use Rattle.answer.specs.Numbers.{number_of}
use Rattle.answer.specs.Answers.{refused}
use Rattle.answer.proofs.Laws.{one_case}
use Rattle.ground.proofs.Laws.{never, and_true}
use Rattle.row.specs.Layout.{declaration_limit, row_limit, string_limit}
use Rattle.row.specs.Rows.{Row, texts}
use Rattle.row.specs.Sets.{flat, decode}
use Rattle.formed.specs.WellFormed.{well_formed}
use Rattle.formed.proofs.Laws.{exact}
use Rattle.row.specs.declared.kind.Kind.TheVariants.{Reference}
use Rattle.resolve.specs.Kinds.{is_kind, is_definition}
use Rattle.resolve.specs.Resolve.{Resolution, is_defined, faulty, fault_of, or_else, fault_in}
use Rattle.fits.specs.Misfits.{default_fits, misfit, misfit_in}
use Rattle.schema.specs.Out.{Out, read}
use Rattle.schema.specs.Out as out
use Rattle.schema.specs.Schema.{declared}
use Rattle.set.specs.Lists.{Result, becomes, refuses, refuse, next, on_rows, on_resolved, append, append_all, put_in}
use Rattle.set.specs.Calls.{answer_of, on_set, put}
use Rattle.set.proofs.Laws.{put_unformed, put_formed}
use Rattle.told.specs.Told.{is_own, Told}
use Rattle.told.proofs.Told.{own, told, not_seven}

-- 20, 21 and 22
abbrev is_asked : ℕ → Bool
is_asked n = ltb 19 n && ltb n 23

-- a text's own number is none of them
own_not : (n : ℕ) → is_own n ≡ true → is_asked n ≡ false
own_not n h = go (is_asked n) refl
  where
    none : 19 < n → n < 23 → (a b c d : Bool) → (ltb 0 n && ltb n 20) ≡ a → eqb n 27 ≡ b → eqb n 28 ≡ c → eqb n 48 ≡ d → (a || b || c || d) ≡ true → true ≡ false
    none l k true b c d p q r s e = absurd (omega (arith, ltb-true n 20 (and_true (ltb 0 n) (ltb n 20) p).1))
    none l k false true c d p q r s e = absurd (omega (arith, eqb-true n 27 q))
    none l k false false true d p q r s e = absurd (omega (arith, eqb-true n 28 r))
    none l k false false false true p q r s e = absurd (omega (arith, eqb-true n 48 s))
    none l k false false false false p q r s e = never e

    go : (x : Bool) → is_asked n ≡ x → is_asked n ≡ false
    go false p = p
    go true p =
        let z = and_true (ltb 19 n) (ltb n 23) p in
        p ∙ none (ltb-true _ _ z.0) (ltb-true _ _ z.1) (ltb 0 n && ltb n 20) (eqb n 27) (eqb n 28) (eqb n 48) refl refl refl refl h

-- neither 7 nor one of these
abbrev is_later : Why → Bool
is_later w = not (eqb (number_of w) 7 || is_asked (number_of w))

-- 25 and 26
abbrev Other : Resolution → Type 0
Other (Ok _) = Unit {0}
Other (Err f) = is_later f.why ≡ true

row_other : (earlier : List Row) (r : Row) → Other (fault_of earlier r)
unfolding fault_of
row_other earlier r = go (is_definition r.kind && is_defined earlier r.text) (is_kind Reference r.kind && not (is_defined earlier r.text))
  where
    go : (x y : Bool) → Other (cond x (faulty DefinedAlready r) (cond y (faulty ReferenceUnknown r) (Ok tt)))
    go true y = refl
    go false true = refl
    go false false = tt

else_other : (x y : Resolution) → Other x → Other y → Other (or_else x y)
else_other (Ok _) y f g = g
else_other (Err f) y g h = g

rows_other : (earlier rows : List Row) → Other (fault_in earlier rows)
unfolding fault_in
rows_other earlier [] = tt
rows_other earlier (r ∷ rows) = else_other (fault_of earlier r) (fault_in (earlier ++ (r ∷ [])) rows) (row_other earlier r) (rows_other (earlier ++ (r ∷ [])) rows)

-- 47
misfits_other : (all rows : List Row) → Other (misfit_in all rows)
unfolding misfit_in
misfits_other all [] = tt
misfits_other all (r ∷ rest) = go (default_fits all r rest) (misfits_other all rest)
  where
    go : (b : Bool) → Other (misfit_in all rest) → Other (cond b (misfit_in all rest) (misfit r))
    go true h = h
    go false h = refl

module _ (text : List ℕ) (place : ℕ) where
  record Tells (r : Refusal) : Type 0 where
    asked : is_asked (number_of r.why) ≡ false
    letter : r.why ≡ NotAName → (r.place ≡ place) × Told text r.at

  abbrev Fair : Result → Type 0
  Fair (becomes ds) = Unit {0}
  Fair (refuses r) = Tells r

  other : (w : Why) (k p : ℕ) → is_later w ≡ true → Fair (refuse w k p)
  other w k p e = go (eqb (number_of w) 7) refl (is_asked (number_of w)) refl e
    where
      go : (x : Bool) → eqb (number_of w) 7 ≡ x → (y : Bool) → is_asked (number_of w) ≡ y → not (x || y) ≡ true → Fair (refuse w k p)
      go true p y q h = never h
      go false p true q h = never h
      go false p false q h = record { asked = q; letter = λ z. not_seven w p z }

  cond_fair : (b : Bool) (x y : Result) → Fair x → Fair y → Fair (cond b x y)
  cond_fair true x y f g = f
  cond_fair false x y f g = g

  resolved_fair : (s : Resolution) (k : ℕ) (x : Result) → Other s → Fair x → Fair (on_resolved s k x)
  resolved_fair (Ok _) k x o g = g
  resolved_fair (Err f) k x o g = other f.why k f.at o

  next_fair : (x : Result) (step : List (List Row) → Result) → Fair x → ((ds : List (List Row)) → Fair (step ds)) → Fair (next x step)
  next_fair (becomes ds) step f g = g ds
  next_fair (refuses r) step f g = f

  rows_fair : (step : List Row → Result) → ((rows : List Row) → Fair (step rows)) → Fair (on_rows (declared text) place step)
  rows_fair step g = go (declared text) refl
    where
      go : (o : Out) → declared text ≡ o → Fair (on_rows o place step)
      go (out.refused f) e = record { asked = own_not (number_of f.why) (own text f e); letter = λ h. (refl, told text f e h) }
      go (read rows) e = g rows

  -- ---- the declarations of the set
  append_fair : (ds : List (List Row)) (rows : List Row) → Fair (append ds rows)
  unfolding append
  append_fair ds rows =
      cond_fair (ltb row_limit (length (flat ds) + length rows)) _ _ (other TooManyRows (length ds) 0 refl)
      (cond_fair (ltb string_limit (length (texts (flat ds)) + length (texts rows))) _ _ (other TooManyStringBytes (length ds) 0 refl)
      (resolved_fair (fault_in (flat ds) rows) (length ds) _ (rows_other (flat ds) rows)
      (resolved_fair (misfit_in (flat ds ++ rows) rows) (length ds) (becomes (ds ++ (rows ∷ []))) (misfits_other (flat ds ++ rows) rows) tt)))

  all_fair : (more ds : List (List Row)) → Fair (append_all ds more)
  unfolding append_all
  all_fair [] ds = tt
  all_fair (rows ∷ more) ds = next_fair (append ds rows) (λ longer. append_all longer more) (append_fair ds rows) (all_fair more)

  -- ---- the call, on well-formed memory whose count is not below the place, the place below the limit
  after_place : (ds : List (List Row)) → Fair (on_rows (declared text) place (λ rows. append_all (take place ds) (rows ∷ drop (place + 1) ds)))
  after_place ds = rows_fair (λ rows. append_all (take place ds) (rows ∷ drop (place + 1) ds)) (λ rows. all_fair (rows ∷ drop (place + 1) ds) (take place ds))

-- ---- 20, then 21, then 22, then what the text and the set say
data Asked (m : List ℕ) (place : ℕ) (text : List ℕ) : Type 0 where
  not_formed : well_formed m ≡ false → put m place text ≡ refuse NotWellFormed place 0 → Asked m place text
  nowhere : well_formed m ≡ true → length (decode m) < place → put m place text ≡ refuse NoSuchPlace place 0 → Asked m place text
  full : well_formed m ≡ true → place ≤ length (decode m) → declaration_limit ≤ place → put m place text ≡ refuse TooManyDeclarations declaration_limit 0 → Asked m place text
  said : Fair text place (put m place text) → Asked m place text

asked : (m : List ℕ) (place : ℕ) (text : List ℕ) → Asked m place text
unfolding put on_set put_in
asked m place text = go (well_formed m) refl (ltb (length (decode m)) place) refl (ltb declaration_limit (place + 1)) refl
  where
    go : (a : Bool) → well_formed m ≡ a → (b : Bool) → ltb (length (decode m)) place ≡ b → (c : Bool) → ltb declaration_limit (place + 1) ≡ c → Asked m place text
    go false p b q c r = not_formed p (rw p)
    go true p true q c r = nowhere p (ltb-true _ _ q) (rw (p, q))
    go true p false q true r = full p (ltb-false _ _ q) (omega (arith, ltb-true declaration_limit (place + 1) r)) (rw (p, q, r))
    go true p false q false r = said (rw (p, q, r) (after_place text place (decode m)))

module _ (m : List ℕ) (place : ℕ) (text : List ℕ) where
  -- what is answered has another number
  no_number : {A : Type 0} {x : Result} (w : Why) (k : ℕ) (n : ℕ) → x ≡ refuse w k 0 → (answer_of x).number ≡ n → eqb (number_of w) n ≡ false → A
  unfolding answer_of
  no_number w k n e h f = let z : number_of w ≡ n = sym (ap (λ (x : Result). (answer_of x).number) e) ∙ h in never (sym f ∙ eq-eqb (number_of w) n z)

  no_asked : {A : Type 0} (x : Result) → Fair text place x → (n : ℕ) → (answer_of x).number ≡ n → is_asked n ≡ true → A
  unfolding answer_of
  no_asked (becomes ds) g n h f = never (ap is_asked h ∙ f)
  no_asked (refuses r) g n h f = never (sym g.asked ∙ ap is_asked h ∙ f)

  pub formed_said : well_formed m ≡ false → answer_of (put m place text) ≡ refused 20 place 0
  unfolding answer_of
  formed_said e = ap answer_of (put_unformed m e place text)

  pub formed_only : (answer_of (put m place text)).number ≡ 20 → well_formed m ≡ false
  formed_only h = go (asked m place text)
    where
      go : Asked m place text → well_formed m ≡ false
      go (not_formed w e) = w
      go (nowhere w l e) = no_number NoSuchPlace place 20 e h refl
      go (full w l k e) = no_number TooManyDeclarations declaration_limit 20 e h refl
      go (said g) = no_asked (put m place text) g 20 h refl

  pub nowhere_said : well_formed m ≡ true → length (decode m) < place → answer_of (put m place text) ≡ refused 21 place 0
  unfolding put_in answer_of
  nowhere_said w l = ap answer_of (put_formed m w place text) ∙ rw (lt-ltb (length (decode m)) place l)

  pub nowhere_only : (answer_of (put m place text)).number ≡ 21 → (well_formed m ≡ true) × (length (decode m) < place)
  nowhere_only h = go (asked m place text)
    where
      go : Asked m place text → (well_formed m ≡ true) × (length (decode m) < place)
      go (not_formed w e) = no_number NotWellFormed place 21 e h refl
      go (nowhere w l e) = (w, l)
      go (full w l k e) = no_number TooManyDeclarations declaration_limit 21 e h refl
      go (said g) = no_asked (put m place text) g 21 h refl

  pub full_said : well_formed m ≡ true → length (decode m) ≡ declaration_limit → place ≡ declaration_limit → answer_of (put m place text) ≡ refused 22 declaration_limit 0
  unfolding put_in answer_of
  full_said w n k =
      let a : place ≤ length (decode m) = omega arith in
      let b : declaration_limit < place + 1 = omega arith in
      ap answer_of (put_formed m w place text) ∙ rw (le-ltb (length (decode m)) place a, lt-ltb declaration_limit (place + 1) b)

  pub full_only : (answer_of (put m place text)).number ≡ 22 → (well_formed m ≡ true) × (length (decode m) ≡ declaration_limit) × (place ≡ declaration_limit)
  full_only h = go (asked m place text)
    where
      go : Asked m place text → (well_formed m ≡ true) × (length (decode m) ≡ declaration_limit) × (place ≡ declaration_limit)
      go (not_formed w e) = no_number NotWellFormed place 22 e h refl
      go (nowhere w l e) = no_number NoSuchPlace place 22 e h refl
      go (full w l k e) = let g = (exact m w).1.few in (w, omega (arith, g), omega (arith, g))
      go (said g) = no_asked (put m place text) g 22 h refl

  letter_told : (x : Result) → Fair text place x → (answer_of x).number ≡ 7 → ((answer_of x).first ≡ place) × Told text (answer_of x).second
  unfolding answer_of
  letter_told (becomes ds) g e = absurd (omega arith)
  letter_told (refuses r) g e = g.letter (one_case r.why NotAName e)

  pub put_tells : (answer_of (put m place text)).number ≡ 7 → ((answer_of (put m place text)).first ≡ place) × Told text (answer_of (put m place text)).second
  put_tells h = go (asked m place text)
    where
      go : Asked m place text → ((answer_of (put m place text)).first ≡ place) × Told text (answer_of (put m place text)).second
      go (not_formed w e) = no_number NotWellFormed place 7 e h refl
      go (nowhere w l e) = no_number NoSuchPlace place 7 e h refl
      go (full w l k e) = no_number TooManyDeclarations declaration_limit 7 e h refl
      go (said g) = letter_told (put m place text) g h
