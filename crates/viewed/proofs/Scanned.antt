-- A text whose scan is whole, by its views: its value, each element of an array and each member's value is a value that the automaton
-- reads there, an array's elements end at its `]`, an object's members at its `}`, and behind the text's value stands white space alone.
-- Assumes nothing.
use mathlib.Core.Path.{◌≡◌, refl, sym, ap, ◌∙◌, subst}
use mathlib.Core.Bool.{Bool, true, false, cond, ◌||◌}
use mathlib.Core.List.{List, [], ◌∷◌}
use Prim.Native.Nat.{ℕ, suc, ◌+◌, ◌<◌, ◌≤◌}
use native.Mathlib.Nat.{add-zero}
use native.Mathlib.Numerals.{add-one}
use native.Mathlib.Omega.{arith}
use native.Mathlib.Decide.{dec_lt}
use lib.Dec.{eqb, leb, ltb}
use lib.ListN.{length, drop, drop_of_length-le}
use lib.Seq.{drop-cons, drop-drop, get_or-drop}
use borrow.Author.Tests.{eqb-true, leb-true, le-leb}
use Rattle.std.specs.Prelude.{Ok}
use Rattle.answer.specs.declared.refusal.Why.{Why}
use Rattle.answer.specs.declared.refusal.Why.TheVariants.{NotJson, NestedTooDeep}
use Rattle.json_scan.specs.Json.{Mode, Stack, Move, Bracket, go, die, deepest, inside, is_space, is_digit, square, brace, as_value, plain, minus, nought, int, val, first, done, key0, word, num, str, opens, word_of, simple, begin, step, whole, run, verdict}
use Rattle.json_scan.specs.Meets.{run_at}
use Rattle.ground.specs.Bytes.{byte_at}
use Rattle.ground.proofs.Laws.{and_true, and_intro, byte_at_lem}
use Rattle.view.specs.declared.shape.Shape.TheVariants.{Text, Number, Object, Array, Word, Nothing}
use Rattle.view.specs.Values.{count, skip_of, value_start, shape_of, is_value, starts_value}
use Rattle.view.specs.Ends.{end_of}
use Rattle.view.proofs.Laws.{skip_within, end_within}
use Rattle.viewed.proofs.Blocks.{bad, Lives, lives, run_lives, run_step, end_of_lem}
use Rattle.viewed.proofs.Literals.{gone}
use Rattle.viewed.proofs.Values.{value_ends}

-- ---- one byte of a whole run
module _ (t : List ℕ) (p : ℕ) where
  pub drop_here : p < length t → drop p t ≡ byte_at t p ∷ drop (suc p) t
  drop_here h = rw byte_at_lem (drop-cons t p 0 h)

  -- where the text may not end, there is a byte
  pub more : (m : Mode) (k : Stack) → whole m k ≡ false → run_at t m k p ≡ Ok tt → p < length t
  unfolding run_at
  more m k n h = go1 (dec_lt p (length t))
    where
      go1 : Dec (p < length t) → p < length t
      go1 (yes l) = l
      go1 (no l) = let o : length t ≤ p = omega arith in bad (sym (end_of_lem m k p n) ∙ ap (λ (s : List ℕ). run m k p s) (sym (drop_of_length-le t o)) ∙ h)

  pub at_lives : (m : Mode) (k : Stack) → p < length t → run_at t m k p ≡ Ok tt → Lives (step m (byte_at t p) k) (λ m' κ'. run_at t m' κ' (p + 1))
  unfolding run_at
  at_lives m k l h = rw add-one (run_lives m k p (byte_at t p) (drop (suc p) t) (ap (λ (s : List ℕ). run m k p s) (sym (drop_here l)) ∙ h))

  -- another mode that makes the same move
  pub alike : (m m' : Mode) (k : Stack) → p < length t → step m (byte_at t p) k ≡ step m' (byte_at t p) k → run_at t m k p ≡ Ok tt → run_at t m' k p ≡ Ok tt
  unfolding run_at run
  alike m m' k l e h = rw (drop_here l, ← e) (rw (drop_here l) at h)

-- ---- white space
module _ (m : Mode) (stays : (b : ℕ) (k : Stack) → is_space b ≡ true → step m b k ≡ go m k) (k : Stack) where
  spaces : (s : List ℕ) (p : ℕ) → run m k p s ≡ run m k (p + count is_space s) (drop (count is_space s) s)
  unfolding count
  spaces [] p = ap (λ (x : ℕ). run m k x []) (sym (add-zero p))
  spaces (b ∷ s) p = go1 (spaces s (suc p)) (is_space b) refl
    where
      go1 : run m k (suc p) s ≡ run m k (suc p + count is_space s) (drop (count is_space s) s) → (x : Bool) → is_space b ≡ x
          → run m k p (b ∷ s) ≡ run m k (p + cond x (suc (count is_space s)) 0) (drop (cond x (suc (count is_space s)) 0) (b ∷ s))
      go1 r true i =
          let f : suc p + count is_space s ≡ p + suc (count is_space s) = omega arith in
          run_step m k p b s (stays b k i) ∙ r ∙ ap (λ (x : ℕ). run m k x (drop (count is_space s) s)) f
      go1 r false i = ap (λ (x : ℕ). run m k x (b ∷ s)) (sym (add-zero p))

  pub skips : (t : List ℕ) (p : ℕ) → run_at t m k p ≡ Ok tt → run_at t m k (skip_of t p) ≡ Ok tt
  unfolding run_at skip_of
  skips t p h = ap (λ (s : List ℕ). run m k (p + count is_space (drop p t)) s) (sym (drop-drop (count is_space (drop p t)) p t)) ∙ sym (spaces (drop p t) p) ∙ h

solid_list : (s : List ℕ) → is_space (byte_at s (count is_space s)) ≡ false
unfolding count byte_at
solid_list [] = refl
solid_list (b ∷ s) = go1 (solid_list s) (is_space b) refl
  where
    go1 : is_space (byte_at s (count is_space s)) ≡ false → (x : Bool) → is_space b ≡ x → is_space (byte_at (b ∷ s) (cond x (suc (count is_space s)) 0)) ≡ false
    go1 r true i = r
    go1 r false i = i

-- past white space stands none
pub solid : (t : List ℕ) (p : ℕ) → is_space (byte_at t (skip_of t p)) ≡ false
unfolding skip_of byte_at
solid t p = ap is_space (sym (get_or-drop p t (count is_space (drop p t)) 0)) ∙ solid_list (drop p t)

-- ---- a value starts
abbrev Starts' : ℕ → Move → Type 0
Starts' b (go m κ) = starts_value b ≡ true
Starts' b (die w) = Unit {0}

record Starts (b : ℕ) (x : Move) : Type 0 where
  starts : Starts' b x

module _ (b : ℕ) (k : Stack) where
  alt : (x : Bool) (A B : Move) → (x ≡ true → Starts b A) → Starts b B → Starts b (cond x A B)
  alt true A B f g = f refl
  alt false A B f g = g

  byte : (c : ℕ) (m : Mode) (κ : Stack) → starts_value c ≡ true → eqb b c ≡ true → Starts b (go m κ)
  byte c m κ v h = record { starts = ap starts_value (eqb-true b c h) ∙ v }

  dies : (w : Why) → Starts b (die w)
  dies w = record { starts = tt }

  bracketed : (c : ℕ) (x : Bracket) (m : Mode) → starts_value c ≡ true → eqb b c ≡ true → Starts b (opens x m k)
  bracketed c x m v h = alt (ltb (length k) deepest) (go m (x ∷ k)) (die NestedTooDeep) (λ _. byte c m (x ∷ k) v h) (dies NestedTooDeep)

  a_digit : is_digit b ≡ true → starts_value b ≡ true
  unfolding shape_of is_value
  a_digit h = rw h (go1 (eqb b 34) (eqb b 91) (eqb b 123) (eqb b 45))
    where
      go1 : (x y z u : Bool) → is_value (cond x Text (cond y Array (cond z Object (cond (u || true) Number (cond (eqb b 116 || eqb b 102 || eqb b 110) Word Nothing))))) ≡ true
      go1 true y z u = refl
      go1 false true z u = refl
      go1 false false true u = refl
      go1 false false false true = refl
      go1 false false false false = refl

  not_nil : inside 49 57 b ≡ true → is_digit b ≡ true
  not_nil h =
      let p = and_true (leb 49 b) (leb b 57) h in
      let l = leb-true 49 b p.0 in
      and_intro (leb 48 b) (leb b 57) (le-leb 48 b (omega arith)) p.1

  begins : Starts b (begin b k)
  unfolding simple word_of shape_of is_value
  begins =
      alt (eqb b 91) (opens square first k) _ (bracketed 91 square first refl)
      (alt (eqb b 123) (opens brace key0 k) _ (bracketed 123 brace key0 refl)
      (alt (eqb b 34) (go (str as_value plain) k) _ (byte 34 (str as_value plain) k refl)
      (alt (eqb b 45) (go (num minus) k) _ (byte 45 (num minus) k refl)
      (alt (eqb b 116) (go (word 114 (117 ∷ 101 ∷ [])) k) _ (byte 116 (word 114 (117 ∷ 101 ∷ [])) k refl)
      (alt (eqb b 102) (go (word 97 (108 ∷ 115 ∷ 101 ∷ [])) k) _ (byte 102 (word 97 (108 ∷ 115 ∷ 101 ∷ [])) k refl)
      (alt (eqb b 110) (go (word 117 (108 ∷ 108 ∷ [])) k) _ (byte 110 (word 117 (108 ∷ 108 ∷ [])) k refl)
      (alt (eqb b 48) (go (num nought) k) _ (byte 48 (num nought) k refl)
      (alt (inside 49 57 b) (go (num int) k) (die NotJson) (λ h. record { starts = a_digit (not_nil h) }) (dies NotJson)))))))))

-- at p the automaton reads a value within the brackets k, and the whole text is right
pub record Scanned (t : List ℕ) (p : ℕ) (k : Stack) : Type 0 where
  pub on : run_at t val k p ≡ Ok tt
  pub solid_at : is_space (byte_at t p) ≡ false
  pub value : starts_value (byte_at t p) ≡ true

module _ (t : List ℕ) (k : Stack) where
  pub value_here : (p : ℕ) → is_space (byte_at t p) ≡ false → run_at t val k p ≡ Ok tt → Scanned t p k
  value_here p n h = go1 (at_lives t p val k (more t p val k refl h) h)
    where
      go1 : Lives (step val (byte_at t p) k) (λ m' κ'. run_at t m' κ' (p + 1)) → Scanned t p k
      go1 (lives m κ q w) =
          let b = (subst (λ (x : Move). Starts (byte_at t p) x) (sym (ap (λ (x : Bool). cond x (go val k) (begin (byte_at t p) k)) n) ∙ q) (begins (byte_at t p) k)).starts in
          record { on = h; solid_at = n; value = b }

  pub value_from_lem : (p : ℕ) → run_at t val k p ≡ Ok tt → Scanned t (skip_of t p) k
  value_from_lem p h = value_here (skip_of t p) (solid t p) (skips val (λ b κ i. rw i) k t p h)

  -- it ends where the automaton is done with it
  pub scanned_ends : {p : ℕ} → Scanned t p k → run_at t val k p ≡ run_at t done k (end_of t p)
  scanned_ends {p} s = value_ends t p k s.solid_at s.on

  pub behind : {p : ℕ} → Scanned t p k → run_at t done k (skip_of t (end_of t p)) ≡ Ok tt
  behind {p} s = skips done (λ b κ i. rw i) k t (end_of t p) (sym (scanned_ends s) ∙ s.on)

-- ---- the text's value
pub text_scanned : (t : List ℕ) → verdict t ≡ Ok tt → Scanned t (value_start t) []
unfolding verdict run_at
text_scanned t h = value_from_lem t [] 0 h

-- behind it stands white space alone
pub text_ends : (t : List ℕ) → verdict t ≡ Ok tt → skip_of t (end_of t (value_start t)) ≡ length t
text_ends t h = go1 (dec_lt (skip_of t (end_of t (value_start t))) (length t))
  where
    s : Scanned t (value_start t) []
    s = text_scanned t h

    go2 : (p : ℕ) → is_space (byte_at t p) ≡ false → Lives (step done (byte_at t p) []) (λ m' κ'. run_at t m' κ' (p + 1)) → ⊥
    go2 p n (lives m κ q w) = gone (sym (ap (λ (x : Bool). cond x (go done []) (die NotJson)) n) ∙ q)

    go1 : Dec (skip_of t (end_of t (value_start t)) < length t) → skip_of t (end_of t (value_start t)) ≡ length t
    go1 (yes l) = absurd (go2 (skip_of t (end_of t (value_start t))) (solid t (end_of t (value_start t))) (at_lives t (skip_of t (end_of t (value_start t))) done [] l (behind t [] s)))
    go1 (no n) =
        let a = end_within t (value_start t) (skip_within t 0 (omega arith)) in
        let b = skip_within t (end_of t (value_start t)) a in
        omega arith
