-- A number, a word: at the first delimiter, or at the text's end, the automaton is done with it.
-- Assumes nothing.
use mathlib.Core.Path.{◌≡◌, refl, sym, ap, ◌∙◌, subst}
use mathlib.Core.Logic.{◌⊎◌, inl, inr}
use mathlib.Core.Bool.{Bool, true, false, cond, ◌&&◌, ◌||◌, not}
use mathlib.Core.List.{List, [], ◌∷◌}
use Prim.Native.Nat.{ℕ, suc, ◌+◌}
use native.Mathlib.Nat.{add-zero}
use native.Mathlib.Omega.{arith}
use lib.Dec.{eqb}
use lib.ListN.{drop}
use borrow.Author.Tests.{eqb-true}
use Rattle.std.specs.Prelude.{Ok}
use Rattle.answer.specs.declared.refusal.Why.{Why}
use Rattle.answer.specs.declared.refusal.Why.TheVariants.{NotJson}
use Rattle.json_scan.specs.Json.{Mode, Num, Stack, Move, go, die, inside, is_space, is_digit, is_e, is_sign, square, brace, minus, nought, int, dot, frac, e, sign, exp, val, first, done, key0, key, colon, word, num, str, after, power, point, number, one, step, bottom, closes, fault, onward, run}
use Rattle.view.specs.Values.{count}
use Rattle.view.specs.Ends.{is_delimiter, is_token}
use Rattle.viewed.proofs.Machine.{never}
use Rattle.viewed.proofs.Blocks.{bad, Lives, lives, run_lives, run_step, end_of_lem}

-- ---- delimiters
or_false : (a b : Bool) → (a || b) ≡ false → (a ≡ false) × (b ≡ false)
or_false true b h = never (sym h)
or_false false b h = (refl, h)

or_true : (a b : Bool) → (a || b) ≡ true → (a ≡ true) ⊎ (b ≡ true)
or_true true b h = inl refl
or_true false b h = inr h

-- what holds of each of the seven holds of a delimiter
module _ (P : ℕ → Type 0) (b : ℕ) where
  is : (c : ℕ) → P c → eqb b c ≡ true → P b
  is c p h = subst (λ (x : ℕ). P x) (sym (eqb-true b c h)) p

  by_delimiter : P 44 → P 93 → P 125 → P 32 → P 9 → P 10 → P 13 → is_delimiter b ≡ true → P b
  unfolding is_delimiter
  by_delimiter p q r s t u v h = go1 (or_true (eqb b 44 || eqb b 93 || eqb b 125) (is_space b) h)
    where
      go3 : (eqb b 32 || eqb b 9 || eqb b 10 ≡ true) ⊎ (eqb b 13 ≡ true) → P b
      go3 (inr h) = is 13 v h
      go3 (inl h) = go4 (or_true (eqb b 32 || eqb b 9) (eqb b 10) h)
        where
          go5 : (eqb b 32 ≡ true) ⊎ (eqb b 9 ≡ true) → P b
          go5 (inl h) = is 32 s h
          go5 (inr h) = is 9 t h

          go4 : (eqb b 32 || eqb b 9 ≡ true) ⊎ (eqb b 10 ≡ true) → P b
          go4 (inl h) = go5 (or_true (eqb b 32) (eqb b 9) h)
          go4 (inr h) = is 10 u h

      go2 : (eqb b 44 || eqb b 93 ≡ true) ⊎ (eqb b 125 ≡ true) → P b
      go2 (inr h) = is 125 r h
      go2 (inl h) = go6 (or_true (eqb b 44) (eqb b 93) h)
        where
          go6 : (eqb b 44 ≡ true) ⊎ (eqb b 93 ≡ true) → P b
          go6 (inl h) = is 44 p h
          go6 (inr h) = is 93 q h

      go1 : (eqb b 44 || eqb b 93 || eqb b 125 ≡ true) ⊎ (is_space b ≡ true) → P b
      go1 (inl h) = go2 (or_true (eqb b 44 || eqb b 93) (eqb b 125) h)
      go1 (inr h) = go3 (or_true (eqb b 32 || eqb b 9 || eqb b 10) (eqb b 13) h)

-- a class that has no delimiter
module _ (f : ℕ → Bool) (b : ℕ) (h : f b ≡ true) where
  pub no_delimiter : f 44 ≡ false → f 93 ≡ false → f 125 ≡ false → f 32 ≡ false → f 9 ≡ false → f 10 ≡ false → f 13 ≡ false → is_delimiter b ≡ false
  no_delimiter p q r s t u v = go1 (is_delimiter b) refl
    where
      go1 : (x : Bool) → is_delimiter b ≡ x → is_delimiter b ≡ false
      go1 false i = i
      go1 true i = never (sym (by_delimiter (λ c. f c ≡ false) b p q r s t u v i) ∙ h)

-- a delimiter goes on with no number
record Ending (b : ℕ) : Type 0 where
  digit : is_digit b ≡ false
  nil : eqb b 48 ≡ false
  some : inside 49 57 b ≡ false
  point_no : eqb b 46 ≡ false
  power_no : is_e b ≡ false
  sign_no : is_sign b ≡ false

ending : (b : ℕ) → is_delimiter b ≡ true → Ending b
ending b h =
    by_delimiter Ending b
    (record { digit = refl; nil = refl; some = refl; point_no = refl; power_no = refl; sign_no = refl })
    (record { digit = refl; nil = refl; some = refl; point_no = refl; power_no = refl; sign_no = refl })
    (record { digit = refl; nil = refl; some = refl; point_no = refl; power_no = refl; sign_no = refl })
    (record { digit = refl; nil = refl; some = refl; point_no = refl; power_no = refl; sign_no = refl })
    (record { digit = refl; nil = refl; some = refl; point_no = refl; power_no = refl; sign_no = refl })
    (record { digit = refl; nil = refl; some = refl; point_no = refl; power_no = refl; sign_no = refl })
    (record { digit = refl; nil = refl; some = refl; point_no = refl; power_no = refl; sign_no = refl })
    h

-- ---- what the automaton does at the first byte behind
module _ (b : ℕ) (h : is_delimiter b ≡ false) where
  record Other : Type 0 where
    comma : eqb b 44 ≡ false
    bracket : eqb b 93 ≡ false
    brace_no : eqb b 125 ≡ false
    space : is_space b ≡ false

  other : Other
  unfolding is_delimiter
  other =
      let p = or_false (eqb b 44 || eqb b 93 || eqb b 125) (is_space b) h in
      let q = or_false (eqb b 44 || eqb b 93) (eqb b 125) p.0 in
      let r = or_false (eqb b 44) (eqb b 93) q.0 in
      record { comma = r.0; bracket = r.1; brace_no = q.1; space = p.1 }

  after_dies : (k : Stack) → after b k ≡ die NotJson
  after_dies [] = rw other.space
  after_dies (square ∷ k) = rw (other.space, other.bracket, other.comma)
  after_dies (brace ∷ k) = rw (other.space, other.brace_no, other.comma)

pub gone : {A : Type 0} {w : Why} {m : Mode} {κ : Stack} → die w ≡ go m κ → A
gone h = let z : ◌≡◌ {A = ℕ} 0 1 = cc in absurd (omega arith)

-- behind a value stands a delimiter, or nothing
pub done_stops : (k : Stack) (s : List ℕ) (p : ℕ) → run done k p s ≡ Ok tt → count is_token s ≡ 0
unfolding count
done_stops k [] p h = refl
done_stops k (b ∷ s) p h = go1 (is_delimiter b) refl (run_lives done k p b s h)
  where
    go1 : (x : Bool) → is_delimiter b ≡ x → Lives (after b k) (λ m' κ'. run m' κ' (suc p) s) → cond (not x) (suc (count is_token s)) 0 ≡ 0
    go1 true i l = refl
    go1 false i (lives m κ q w) = gone (sym (after_dies b i k) ∙ q)

-- ---- numbers
-- over a byte that is no delimiter a number goes on, or the automaton dies
abbrev Numeric' : Stack → Move → Type 0
Numeric' k (go val κ) = ⊥
Numeric' k (go first κ) = ⊥
Numeric' k (go done κ) = ⊥
Numeric' k (go key0 κ) = ⊥
Numeric' k (go key κ) = ⊥
Numeric' k (go colon κ) = ⊥
Numeric' k (go (word x xs) κ) = ⊥
Numeric' k (go (num n) κ) = κ ≡ k
Numeric' k (go (str w i) κ) = ⊥
Numeric' k (die w) = Unit {0}

record Numeric (k : Stack) (x : Move) : Type 0 where
  numeric : Numeric' k x

module _ (k : Stack) where
  either : (x : Bool) (n : Num) (A : Move) → Numeric k A → Numeric k (cond x (go (num n) k) A)
  either true n A h = record { numeric = refl }
  either false n A h = h

  died : (w : Why) → Numeric k (die w)
  died w = record { numeric = tt }

  module _ (b : ℕ) (h : is_delimiter b ≡ false) where
    after_n : Numeric k (after b k)
    after_n = subst (λ (x : Move). Numeric k x) (sym (after_dies b h k)) (died NotJson)

    power_n : Numeric k (power b k)
    power_n = either (is_e b) e (after b k) after_n

    point_n : Numeric k (point b k)
    point_n = either (eqb b 46) dot (power b k) power_n

    number_moves : (n : Num) → Numeric k (number n b k)
    unfolding number
    number_moves minus = either (eqb b 48) nought (one (inside 49 57 b) (num int) k) (either (inside 49 57 b) int (die NotJson) (died NotJson))
    number_moves nought = point_n
    number_moves int = either (is_digit b) int (point b k) point_n
    number_moves dot = either (is_digit b) frac (die NotJson) (died NotJson)
    number_moves frac = either (is_digit b) frac (power b k) power_n
    number_moves e = either (is_sign b) sign (one (is_digit b) (num exp) k) (either (is_digit b) exp (die NotJson) (died NotJson))
    number_moves sign = either (is_digit b) exp (die NotJson) (died NotJson)
    number_moves exp = either (is_digit b) exp (after b k) after_n

  -- at a delimiter the number is done, or the automaton dies
  number_stops : (b : ℕ) → is_delimiter b ≡ true → (n : Num) → (number n b k ≡ after b k) ⊎ (number n b k ≡ die NotJson)
  unfolding number
  number_stops b h minus = let i = ending b h in inr (rw (i.nil, i.some))
  number_stops b h nought = let i = ending b h in inl (rw (i.point_no, i.power_no))
  number_stops b h int = let i = ending b h in inl (rw (i.digit, i.point_no, i.power_no))
  number_stops b h dot = let i = ending b h in inr (rw i.digit)
  number_stops b h frac = let i = ending b h in inl (rw (i.digit, i.power_no))
  number_stops b h e = let i = ending b h in inr (rw (i.sign_no, i.digit))
  number_stops b h sign = let i = ending b h in inr (rw i.digit)
  number_stops b h exp = let i = ending b h in inl (rw i.digit)

  -- the run from here is the run behind the token
  abbrev pub Ends : List ℕ → Mode → ℕ → Type 0
  Ends s m p = run m k p s ≡ run done k (p + count is_token s) (drop (count is_token s) s)

  ends_here : (s : List ℕ) (m : Mode) (b p : ℕ) → is_delimiter b ≡ true → step m b k ≡ after b k → Ends (b ∷ s) m p
  unfolding count run
  ends_here s m b p h q = rw (h, add-zero) (ap (λ (x : Move). onward x p (λ m' κ'. run m' κ' (suc p) s)) q)

  pub ends_later : (s : List ℕ) (m m' : Mode) (b p : ℕ) → is_delimiter b ≡ false → step m b k ≡ go m' k → Ends s m' (suc p) → Ends (b ∷ s) m p
  unfolding count
  ends_later s m m' b p h q r =
      let f : suc p + count is_token s ≡ p + suc (count is_token s) = omega arith in
      rw h (run_step m k p b s q ∙ r ∙ ap (λ (x : ℕ). run done k x (drop (count is_token s) s)) f)

  num_end : (n : Num) (p : ℕ) → run (num n) k p [] ≡ Ok tt → Ends [] (num n) p
  unfolding run count
  num_end n p h = go1 (closes n) (bottom k) h
    where
      go1 : (x y : Bool) → cond (x && y) (Ok tt) (fault NotJson p) ≡ Ok tt → cond (x && y) (Ok tt) (fault NotJson p) ≡ cond y (Ok tt) (fault NotJson (p + 0))
      go1 true true i = refl
      go1 true false i = bad i
      go1 false y i = bad i

  pub num_ends : (s : List ℕ) (n : Num) (p : ℕ) → run (num n) k p s ≡ Ok tt → Ends s (num n) p
  num_ends [] n p h = num_end n p h
  num_ends (b ∷ s) n p h = go1 (num_ends s) (is_delimiter b) refl (run_lives (num n) k p b s h)
    where
      on : ((n : Num) (p : ℕ) → run (num n) k p s ≡ Ok tt → Ends s (num n) p) → is_delimiter b ≡ false → (m : Mode) (κ : Stack) → Numeric' k (go m κ)
          → number n b k ≡ go m κ → run m κ (suc p) s ≡ Ok tt → Ends (b ∷ s) (num n) p
      on r i val κ v q w = absurd v
      on r i first κ v q w = absurd v
      on r i done κ v q w = absurd v
      on r i key0 κ v q w = absurd v
      on r i key κ v q w = absurd v
      on r i colon κ v q w = absurd v
      on r i (word x xs) κ v q w = absurd v
      on r i (str a j) κ v q w = absurd v
      on r i (num n') κ v q w =
          ends_later s (num n) (num n') b p i (q ∙ ap (go (num n')) v) (r n' (suc p) (ap (λ (c : Stack). run (num n') c (suc p) s) (sym v) ∙ w))

      stop : (number n b k ≡ after b k) ⊎ (number n b k ≡ die NotJson) → is_delimiter b ≡ true → (m : Mode) (κ : Stack) → number n b k ≡ go m κ → Ends (b ∷ s) (num n) p
      stop (inl a) i m κ q = ends_here s (num n) b p i a
      stop (inr a) i m κ q = gone (sym a ∙ q)

      go1 : ((n : Num) (p : ℕ) → run (num n) k p s ≡ Ok tt → Ends s (num n) p) → (x : Bool) → is_delimiter b ≡ x
          → Lives (number n b k) (λ m' κ'. run m' κ' (suc p) s) → Ends (b ∷ s) (num n) p
      go1 r true i (lives m κ q w) = stop (number_stops b i n) i m κ q
      go1 r false i (lives m κ q w) = on r i m κ (subst (λ (x : Move). Numeric k x) q (number_moves b i n)).numeric q w

  -- ---- words
  abbrev pub Tokens : List ℕ → Type 0
  Tokens [] = Unit {0}
  Tokens (x ∷ xs) = (is_delimiter x ≡ false) × Tokens xs

  done_ends : (s : List ℕ) (p : ℕ) → run done k p s ≡ Ok tt → Ends s done p
  done_ends s p h = rw (done_stops k s p h, add-zero)

  pub word_ends : (xs : List ℕ) (x : ℕ) (s : List ℕ) (p : ℕ) → Tokens (x ∷ xs) → run (word x xs) k p s ≡ Ok tt → Ends s (word x xs) p
  word_ends xs x [] p t h = bad (sym (end_of_lem (word x xs) k p refl) ∙ h)
  word_ends [] x (b ∷ s) p t h = go1 (eqb b x) refl (run_lives (word x []) k p b s h)
    where
      go1 : (y : Bool) → eqb b x ≡ y → Lives (one y done k) (λ m' κ'. run m' κ' (suc p) s) → Ends (b ∷ s) (word x []) p
      go1 false i (lives m κ q w) = gone q
      go1 true i (lives m κ q w) =
          ends_later s (word x []) done b p (ap is_delimiter (eqb-true b x i) ∙ t.0) (ap (λ (y : Bool). one y done k) i)
          (done_ends s (suc p) (went q w))
        where
          went : go done k ≡ go m κ → run m κ (suc p) s ≡ Ok tt → run done k (suc p) s ≡ Ok tt
          went q w = let a : m ≡ done = cc in let c : κ ≡ k = cc in ap (λ (z : Stack). run done z (suc p) s) (sym c) ∙ ap (λ (z : Mode). run z κ (suc p) s) (sym a) ∙ w
  word_ends (y ∷ ys) x (b ∷ s) p t h = go1 (word_ends ys y s (suc p) t.1) (eqb b x) refl (run_lives (word x (y ∷ ys)) k p b s h)
    where
      go1 : (run (word y ys) k (suc p) s ≡ Ok tt → Ends s (word y ys) (suc p)) → (z : Bool) → eqb b x ≡ z → Lives (one z (word y ys) k) (λ m' κ'. run m' κ' (suc p) s)
          → Ends (b ∷ s) (word x (y ∷ ys)) p
      go1 r false i (lives m κ q w) = gone q
      go1 r true i (lives m κ q w) =
          ends_later s (word x (y ∷ ys)) (word y ys) b p (ap is_delimiter (eqb-true b x i) ∙ t.0) (ap (λ (z : Bool). one z (word y ys) k) i) (r (went q w))
        where
          went : go (word y ys) k ≡ go m κ → run m κ (suc p) s ≡ Ok tt → run (word y ys) k (suc p) s ≡ Ok tt
          went q w =
              let a : m ≡ word y ys = cc in
              let c : κ ≡ k = cc in
              ap (λ (z : Stack). run (word y ys) z (suc p) s) (sym c) ∙ ap (λ (z : Mode). run z κ (suc p) s) (sym a) ∙ w
