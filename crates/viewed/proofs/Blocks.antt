-- A string, an array, an object: where the machine comes to rest the automaton is done with the value.
-- Assumes nothing.
use mathlib.Core.Path.{◌≡◌, refl, sym, ap, ◌∙◌, subst}
use mathlib.Core.Logic.{◌⊎◌, inl, inr}
use mathlib.Core.Bool.{Bool, true, false, ◌&&◌}
use mathlib.Core.List.{List, [], ◌∷◌, ◌++◌}
use Prim.Native.Nat.{ℕ, suc, ◌+◌, ◌-◌}
use native.Mathlib.Numerals.{add-one, sub-one}
use native.Mathlib.Omega.{arith}
use lib.Dec.{eqb}
use lib.ListN.{length, drop}
use borrow.Author.Tests.{ne_eqb}
use Rattle.std.specs.Prelude.{Ok}
use Rattle.answer.specs.declared.refusal.Why.{Why}
use Rattle.answer.specs.declared.refusal.Why.TheVariants.{NotJson}
use Rattle.json_scan.specs.Json.{Mode, Inside, Place, Stack, Move, Bracket, go, die, as_key, as_value, plain, esc, h1, h2, h2d, h3, h4, g3, g4, g5, g6, g7, g8, tail, val, first, done, key0, key, colon, word, num, str, step, whole, closes, closed, fault, onward, run, Verdict}
use Rattle.view.specs.Ends.{mode_after, depth_after, at_rest, to_rest}
use Rattle.viewed.proofs.Machine.{never, in_mode, inside_mode, Good, in_string, Stacks, keeps, pushes, pops, Goes, Fits, fits_step}

-- ---- a run that is whole goes on
pub bad : {A : Type 0} {w : Why} {p : ℕ} → fault w p ≡ Ok tt → A
bad h = let z : ◌≡◌ {A = ℕ} 0 1 = cc in absurd (omega arith)

pub data Lives (x : Move) (f : Mode → Stack → Verdict) : Type 0 where
  lives : (m : Mode) (κ : Stack) → x ≡ go m κ → f m κ ≡ Ok tt → Lives x f

onward_lives : (x : Move) (p : ℕ) (f : Mode → Stack → Verdict) → onward x p f ≡ Ok tt → Lives x f
onward_lives (go m κ) p f h = lives m κ refl h
onward_lives (die w) p f h = bad h

pub run_lives : (m : Mode) (κ : Stack) (p b : ℕ) (s : List ℕ) → run m κ p (b ∷ s) ≡ Ok tt → Lives (step m b κ) (λ m' κ'. run m' κ' (suc p) s)
unfolding run
run_lives m κ p b s h = onward_lives (step m b κ) p (λ m' κ'. run m' κ' (suc p) s) h

pub run_step : (m : Mode) (κ : Stack) (p b : ℕ) (s : List ℕ) {m' : Mode} {κ' : Stack} → step m b κ ≡ go m' κ' → run m κ p (b ∷ s) ≡ run m' κ' (suc p) s
unfolding run
run_step m κ p b s q = ap (λ (x : Move). onward x p (λ m'' κ''. run m'' κ'' (suc p) s)) q

-- a text that may not end here
pub end_of_lem : (m : Mode) (κ : Stack) (p : ℕ) → whole m κ ≡ false → run m κ p [] ≡ fault NotJson p
unfolding run
end_of_lem m κ p h = rw h

-- ---- the machine
rest_here : (i d b : ℕ) (s : List ℕ) → at_rest (mode_after i b) (depth_after i b d) ≡ true → to_rest i d (b ∷ s) ≡ 1
unfolding to_rest
rest_here i d b s h = rw h

rest_later : (i d b i' d' : ℕ) (s : List ℕ) → mode_after i b ≡ i' → depth_after i b d ≡ d' → at_rest i' d' ≡ false → to_rest i d (b ∷ s) ≡ suc (to_rest i' d' s)
unfolding to_rest
rest_later i d b i' d' s p q r = rw (p, q, r)

pub open_still : (i n : ℕ) → at_rest i (suc n) ≡ false
unfolding at_rest
open_still i n = go1 (eqb i 0)
  where
    go1 : (x : Bool) → (x && eqb (suc n) 0) ≡ false
    go1 true = ne_eqb (suc n) 0 (λ h. omega arith)
    go1 false = refl

at_zero : {i d : ℕ} → i ≡ 0 → d ≡ 0 → at_rest i d ≡ true
unfolding at_rest
at_zero p q = rw (p, q)

-- in a string the machine's mode is not 0, and brackets count for nothing
inside_mode_lem : (i : Inside) → inside_mode i ≡ 0 → ⊥
inside_mode_lem plain h = omega arith
inside_mode_lem esc h = omega arith
inside_mode_lem h1 h = omega arith
inside_mode_lem h2 h = omega arith
inside_mode_lem h2d h = omega arith
inside_mode_lem h3 h = omega arith
inside_mode_lem h4 h = omega arith
inside_mode_lem g3 h = omega arith
inside_mode_lem g4 h = omega arith
inside_mode_lem g5 h = omega arith
inside_mode_lem g6 h = omega arith
inside_mode_lem g7 h = omega arith
inside_mode_lem g8 h = omega arith
inside_mode_lem (tail lo hi n) h = omega arith

string_mode : (w : Place) (m : Mode) → in_string m w ≡ true → in_mode m ≡ 0 → ⊥
string_mode w val h = never h
string_mode w first h = never h
string_mode w done h = never h
string_mode w key0 h = never h
string_mode w key h = never h
string_mode w colon h = never h
string_mode w (word x xs) h = never h
string_mode w (num n) h = never h
string_mode w (str v i) h = inside_mode_lem i

string_depth : (i b d : ℕ) → (i ≡ 0 → ⊥) → depth_after i b d ≡ d
unfolding depth_after
string_depth i b d n = rw (ne_eqb i 0 n)

string_restless : (i d : ℕ) → (i ≡ 0 → ⊥) → at_rest i d ≡ false
unfolding at_rest
string_restless i d n = rw (ne_eqb i 0 n)

no_bottom : (x : Bool) → (x && false) ≡ false
no_bottom true = refl
no_bottom false = refl

goes_of : {v : Place → Bool} {b i : ℕ} {κ : Stack} {x : Move} {m : Mode} {κ' : Stack} → Fits v b i κ x → x ≡ go m κ' → Goes v b i κ m κ'
goes_of {v} {b} {i} {κ} f h = (subst (λ (y : Move). Fits v b i κ y) h f).fits

-- ---- a string, as a key or as a value
module _ (w : Place) (κ : Stack) where
  -- the run from here is the run behind the string
  abbrev pub Closes : List ℕ → Mode → ℕ → Type 0
  Closes s m p = run m κ p s ≡ run (closed w) κ (p + to_rest (in_mode m) 0 s) (drop (to_rest (in_mode m) 0 s) s)

  unended : (m : Mode) → in_string m w ≡ true → whole m κ ≡ false
  unended val h = never h
  unended first h = never h
  unended done h = never h
  unended key0 h = never h
  unended key h = never h
  unended colon h = never h
  unended (word x xs) h = never h
  unended (num n) h = never h
  unended (str v i) h = refl

  closed_mode : in_mode (closed w) ≡ 0
  closed_mode = of_place w
    where
      of_place : (v : Place) → in_mode (closed v) ≡ 0
      of_place as_key = refl
      of_place as_value = refl

  pub closes_later : (s : List ℕ) (m m' : Mode) (b p : ℕ) → step m b κ ≡ go m' κ → mode_after (in_mode m) b ≡ in_mode m' → depth_after (in_mode m) b 0 ≡ 0
      → at_rest (in_mode m') 0 ≡ false → Closes s m' (suc p) → Closes (b ∷ s) m p
  closes_later s m m' b p q i d r h =
      let n = to_rest (in_mode m') 0 s in
      let f : suc p + n ≡ p + suc n = omega arith in
      rw (rest_later (in_mode m) 0 b (in_mode m') 0 s i d r)
      (run_step m κ p b s q ∙ h ∙ ap (λ (x : ℕ). run (closed w) κ x (drop n s)) f)

  turn_string : (s : List ℕ) → ((m : Mode) (p : ℕ) → Good m → in_string m w ≡ true → run m κ p s ≡ Ok tt → Closes s m p)
      → (m m' : Mode) (b p : ℕ) (κ' : Stack) → in_string m w ≡ true → step m b κ ≡ go m' κ' → Goes (in_string m) b (in_mode m) κ m' κ' → Stacks (in_mode m) b κ m' κ'
      → run m' κ' (suc p) s ≡ Ok tt → Closes (b ∷ s) m p
  turn_string s on m m' b p κ' i q g (pushes x r f) l =
      let a = string_depth (in_mode m) b 0 (string_mode w m i) in let c = f 0 in absurd (omega arith)
  turn_string s on m m' b p κ' i q g (pops x r v f) l =
      let a = string_depth (in_mode m) b 1 (string_mode w m i) in let c = f 1 in absurd (omega arith)
  turn_string s on m m' b p κ' i q g (keeps r f) l = either (g.along w i)
    where
      q' : step m b κ ≡ go m' κ
      q' = q ∙ ap (go m') r

      l' : run m' κ (suc p) s ≡ Ok tt
      l' = ap (λ (c : Stack). run m' c (suc p) s) (sym r) ∙ l

      either : (in_string m' w ≡ true) ⊎ (m' ≡ closed w) → Closes (b ∷ s) m p
      either (inl v) = closes_later s m m' b p q' g.mode (f 0) (string_restless (in_mode m') 0 (string_mode w m' v)) (on m' (suc p) g.good v l')
      either (inr v) =
          let z = at_zero (g.mode ∙ ap (λ (x : Mode). in_mode x) v ∙ closed_mode) (f 0) in
          rw (rest_here (in_mode m) 0 b s z) (run_step m κ p b s (q' ∙ ap (λ (x : Mode). go x κ) v) ∙ ap (λ (x : ℕ). run (closed w) κ x s) (sym (add-one p)))

  pub string_closes : (s : List ℕ) (m : Mode) (p : ℕ) → Good m → in_string m w ≡ true → run m κ p s ≡ Ok tt → Closes s m p
  string_closes [] m p g i h = bad (sym (end_of_lem m κ p (unended m i)) ∙ h)
  string_closes (b ∷ s) m p g i h = one_move (string_closes s) (run_lives m κ p b s h)
    where
      one_move : ((m : Mode) (p : ℕ) → Good m → in_string m w ≡ true → run m κ p s ≡ Ok tt → Closes s m p)
          → Lives (step m b κ) (λ m' κ'. run m' κ' (suc p) s) → Closes (b ∷ s) m p
      one_move on (lives m' κ' q l) = let f = goes_of (fits_step b m g κ) q in turn_string s on m m' b p κ' i q f f.stack l

-- ---- an array, an object: at least one bracket of its own is open
module _ (k : Stack) where
  unwhole : (m : Mode) (x : Bracket) (o : Stack) → whole m (x ∷ o ++ k) ≡ false
  unwhole val x o = refl
  unwhole first x o = refl
  unwhole done x o = refl
  unwhole key0 x o = refl
  unwhole key x o = refl
  unwhole colon x o = refl
  unwhole (word y ys) x o = refl
  unwhole (num n) x o = no_bottom (closes n)
  unwhole (str w i) x o = refl

  -- the run from here is the run behind the value
  abbrev pub Ends : List ℕ → Mode → Stack → ℕ → Type 0
  Ends s m o p = run m (o ++ k) p s ≡ run done k (p + to_rest (in_mode m) (length o) s) (drop (to_rest (in_mode m) (length o) s) s)

  ends_here : (s : List ℕ) (m : Mode) (o : Stack) (b p : ℕ) → step m b (o ++ k) ≡ go done k → at_rest (mode_after (in_mode m) b) (depth_after (in_mode m) b (length o)) ≡ true
      → Ends (b ∷ s) m o p
  ends_here s m o b p q r = rw (rest_here (in_mode m) (length o) b s r) (run_step m (o ++ k) p b s q ∙ ap (λ (x : ℕ). run done k x s) (sym (add-one p)))

  pub ends_later : (s : List ℕ) (m m' : Mode) (o o' : Stack) (b p : ℕ) → step m b (o ++ k) ≡ go m' (o' ++ k) → mode_after (in_mode m) b ≡ in_mode m'
      → depth_after (in_mode m) b (length o) ≡ length o' → at_rest (in_mode m') (length o') ≡ false → Ends s m' o' (suc p) → Ends (b ∷ s) m o p
  ends_later s m m' o o' b p q i d r h =
      let n = to_rest (in_mode m') (length o') s in
      let f : suc p + n ≡ p + suc n = omega arith in
      rw (rest_later (in_mode m) (length o) b (in_mode m') (length o') s i d r)
      (run_step m (o ++ k) p b s q ∙ h ∙ ap (λ (x : ℕ). run done k x (drop n s)) f)

  -- one move
  module _ (s : List ℕ) (on : (m : Mode) (x : Bracket) (o : Stack) (p : ℕ) → Good m → run m (x ∷ o ++ k) p s ≡ Ok tt → Ends s m (x ∷ o) p)
      (m m' : Mode) (b p : ℕ) where
    popped : (y : Bracket) (o : Stack) (x : Bracket) (κ' : Stack) → step m b (y ∷ o ++ k) ≡ go m' κ' → mode_after (in_mode m) b ≡ in_mode m' → y ∷ o ++ k ≡ x ∷ κ' → m' ≡ done
        → ((d : ℕ) → depth_after (in_mode m) b d ≡ d - 1) → run m' κ' (suc p) s ≡ Ok tt → Ends (b ∷ s) m (y ∷ o) p
    popped y [] x κ' q g r v f w =
        let t : κ' ≡ k = cc in
        ends_here s m (y ∷ []) b p (q ∙ ap (λ (z : Mode). go z κ') v ∙ ap (go done) t) (at_zero (g ∙ ap (λ (z : Mode). in_mode z) v) (f 1))
    popped y (z ∷ o) x κ' q g r v f w =
        let t : κ' ≡ z ∷ o ++ k = cc in
        let u : run done (z ∷ o ++ k) (suc p) s ≡ Ok tt = ap (λ (c : Stack). run done c (suc p) s) (sym t) ∙ ap (λ (c : Mode). run c κ' (suc p) s) (sym v) ∙ w in
        ends_later s m done (y ∷ z ∷ o) (z ∷ o) b p (q ∙ ap (λ (c : Mode). go c κ') v ∙ ap (go done) t) (g ∙ ap (λ (c : Mode). in_mode c) v) (f (length (y ∷ z ∷ o)) ∙ sub-one (suc (suc (length o))))
        (open_still 0 (length o)) (on done z o (suc p) tt u)

    turn : (y : Bracket) (o κ' : Stack) → step m b (y ∷ o ++ k) ≡ go m' κ' → Goes (in_string m) b (in_mode m) (y ∷ o ++ k) m' κ'
        → Stacks (in_mode m) b (y ∷ o ++ k) m' κ' → run m' κ' (suc p) s ≡ Ok tt → Ends (b ∷ s) m (y ∷ o) p
    turn y o κ' q g (keeps r f) w =
        ends_later s m m' (y ∷ o) (y ∷ o) b p (q ∙ ap (go m') r) g.mode (f (length (y ∷ o))) (open_still (in_mode m') (length o))
        (on m' y o (suc p) g.good (ap (λ (c : Stack). run m' c (suc p) s) (sym r) ∙ w))
    turn y o κ' q g (pushes x r f) w =
        ends_later s m m' (y ∷ o) (x ∷ y ∷ o) b p (q ∙ ap (go m') r) g.mode (f (length (y ∷ o)) ∙ add-one (length (y ∷ o))) (open_still (in_mode m') (length (y ∷ o)))
        (on m' x (y ∷ o) (suc p) g.good (ap (λ (c : Stack). run m' c (suc p) s) (sym r) ∙ w))
    turn y o κ' q g (pops x r v f) w = popped y o x κ' q g.mode r v f w

  pub rests : (s : List ℕ) (m : Mode) (x : Bracket) (o : Stack) (p : ℕ) → Good m → run m (x ∷ o ++ k) p s ≡ Ok tt → Ends s m (x ∷ o) p
  rests [] m x o p g h = bad (sym (end_of_lem m (x ∷ o ++ k) p (unwhole m x o)) ∙ h)
  rests (b ∷ s) m x o p g h = one_move (run_lives m (x ∷ o ++ k) p b s h) (rests s)
    where
      one_move : Lives (step m b (x ∷ o ++ k)) (λ m' κ'. run m' κ' (suc p) s)
          → ((m : Mode) (x : Bracket) (o : Stack) (p : ℕ) → Good m → run m (x ∷ o ++ k) p s ≡ Ok tt → Ends s m (x ∷ o) p) → Ends (b ∷ s) m (x ∷ o) p
      one_move (lives m' κ' q w) on =
          let f = goes_of (fits_step b m g (x ∷ o ++ k)) q in
          turn s on m m' b p x o κ' q f f.stack w
