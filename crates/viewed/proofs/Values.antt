-- On a text whose scan is whole a value ends, for the view, where the automaton is done with it.
-- Assumes nothing.
use mathlib.Core.Path.{◌≡◌, refl, sym, ap, ◌∙◌, subst}
use mathlib.Core.Bool.{Bool, true, false, cond, ◌||◌}
use mathlib.Core.List.{List, [], ◌∷◌}
use Prim.Native.Nat.{ℕ, suc, ◌+◌}
use native.Mathlib.Omega.{arith}
use lib.Dec.{eqb, ltb}
use lib.ListN.{length, drop, get_or}
use lib.Seq.{drop-drop, get_or-drop}
use borrow.Author.Tests.{eqb-true}
use Rattle.std.specs.Prelude.{Ok}
use Rattle.answer.specs.declared.refusal.Why.TheVariants.{NotJson, NestedTooDeep}
use Rattle.json_scan.specs.Json.{Mode, Num, Stack, Move, Bracket, go, die, deepest, inside, is_space, square, brace, as_value, plain, minus, nought, int, val, first, done, key0, key, colon, word, num, str, opens, word_of, digit1, simple, one, step, run}
use Rattle.json_scan.specs.Meets.{run_at}
use Rattle.ground.specs.Bytes.{byte_at}
use Rattle.ground.proofs.Laws.{byte_at_lem}
use Rattle.view.specs.Values.{count}
use Rattle.view.specs.Ends.{is_delimiter, is_token, literal_end, mode_after, depth_after, at_rest, to_rest, closing_of, is_block, end_of}
use Rattle.viewed.proofs.Machine.{in_mode, Good}
use Rattle.viewed.proofs.Blocks as blocks
use Rattle.viewed.proofs.Blocks.{bad, Lives, lives, run_lives, end_of_lem, string_closes, closes_later, rests}
use Rattle.viewed.proofs.Literals.{gone, no_delimiter, Tokens, num_ends, word_ends}
use Rattle.viewed.proofs.Literals as literals

-- where a move leads
pub went : {A : Type 0} (f : Mode → Stack → A) {m m' : Mode} {κ κ' : Stack} → go m κ ≡ go m' κ' → f m' κ' ≡ f m κ
went f {m} {m'} {κ} {κ'} h = let a : m' ≡ m = cc in let c : κ' ≡ κ = cc in ap (λ (x : Mode). f x κ') a ∙ ap (f m) c

-- ---- the first byte of a value
module _ (k : Stack) (s : List ℕ) (p : ℕ) where
  string_ends : run val k p (34 ∷ s) ≡ Ok tt → blocks.Ends k (34 ∷ s) val [] p
  unfolding simple mode_after depth_after at_rest
  string_ends h = go1 (run_lives val k p 34 s h)
    where
      go1 : Lives (go (str as_value plain) k) (λ m' κ'. run m' κ' (suc p) s) → blocks.Ends k (34 ∷ s) val [] p
      go1 (lives m κ q w) =
          closes_later as_value k s val (str as_value plain) 34 p refl refl refl refl
          (string_closes as_value k s (str as_value plain) (suc p) tt refl (sym (went (λ m' κ'. run m' κ' (suc p) s) q) ∙ w))

  module _ (b : ℕ) (x : Bracket) (m : Mode) (o : step val b k ≡ opens x m k) where
    bracket_ends : mode_after 0 b ≡ 0 → depth_after 0 b 0 ≡ 1 → in_mode m ≡ 0 → Good m
        → run val k p (b ∷ s) ≡ Ok tt → blocks.Ends k (b ∷ s) val [] p
    bracket_ends i d z g h = go1 (ltb (length k) deepest) refl (subst (λ (y : Move). Lives y (λ m' κ'. run m' κ' (suc p) s)) o (run_lives val k p b s h))
      where
        go1 : (y : Bool) → ltb (length k) deepest ≡ y → Lives (cond y (go m (x ∷ k)) (die NestedTooDeep)) (λ m' κ'. run m' κ' (suc p) s) → blocks.Ends k (b ∷ s) val [] p
        go1 false e (lives m' κ' q w) = gone q
        go1 true e (lives m' κ' q w) =
            blocks.ends_later k s val m [] (x ∷ []) b p (o ∙ ap (λ (y : Bool). cond y (go m (x ∷ k)) (die NestedTooDeep)) e) (i ∙ sym z) d (blocks.open_still (in_mode m) 0)
            (rests k s m x [] (suc p) g (sym (went (λ m' κ'. run m' κ' (suc p) s) q) ∙ w))

  array_ends : run val k p (91 ∷ s) ≡ Ok tt → blocks.Ends k (91 ∷ s) val [] p
  unfolding mode_after depth_after
  array_ends h = bracket_ends 91 square first refl refl refl refl tt h

  object_ends : run val k p (123 ∷ s) ≡ Ok tt → blocks.Ends k (123 ∷ s) val [] p
  unfolding mode_after depth_after
  object_ends h = bracket_ends 123 brace key0 refl refl refl refl tt h

-- ---- numbers and words
abbrev Begun' : ℕ → Stack → Move → Type 0
Begun' b k (go val κ) = ⊥
Begun' b k (go first κ) = ⊥
Begun' b k (go done κ) = ⊥
Begun' b k (go key0 κ) = ⊥
Begun' b k (go key κ) = ⊥
Begun' b k (go colon κ) = ⊥
Begun' b k (go (word x xs) κ) = (κ ≡ k) × (is_delimiter b ≡ false) × Tokens k (x ∷ xs)
Begun' b k (go (num n) κ) = (κ ≡ k) × (is_delimiter b ≡ false)
Begun' b k (go (str w i) κ) = ⊥
Begun' b k (die w) = Unit {0}

record Begun (b : ℕ) (k : Stack) (x : Move) : Type 0 where
  begun : Begun' b k x

module _ (b : ℕ) (k : Stack) where
  alt : (x : Bool) (A B : Move) → (x ≡ true → Begun b k A) → Begun b k B → Begun b k (cond x A B)
  alt true A B f g = f refl
  alt false A B f g = g

  numbered : (f : ℕ → Bool) (n : Num) → f 44 ≡ false → f 93 ≡ false → f 125 ≡ false → f 32 ≡ false → f 9 ≡ false → f 10 ≡ false → f 13 ≡ false → f b ≡ true → Begun b k (go (num n) k)
  numbered f n p q r s t u v h = record { begun = (refl, no_delimiter f b h p q r s t u v) }

  worded : (c x : ℕ) (xs : List ℕ) → is_delimiter c ≡ false → Tokens k (x ∷ xs) → eqb b c ≡ true → Begun b k (go (word x xs) k)
  worded c x xs i t h = record { begun = (refl, ap is_delimiter (eqb-true b c h) ∙ i, t) }

  digit_begun : Begun b k (digit1 b k)
  digit_begun =
      alt (eqb b 48) (go (num nought) k) (one (inside 49 57 b) (num int) k) (numbered (λ x. eqb x 48) nought refl refl refl refl refl refl refl)
      (alt (inside 49 57 b) (go (num int) k) (die NotJson) (numbered (inside 49 57) int refl refl refl refl refl refl refl) (record { begun = tt }))

  literal_begun : eqb b 34 ≡ false → Begun b k (simple b k)
  unfolding simple word_of is_delimiter
  literal_begun h =
      rw h
      (alt (eqb b 45) (go (num minus) k) _ (numbered (λ x. eqb x 45) minus refl refl refl refl refl refl refl)
      (alt (eqb b 116) (go (word 114 (117 ∷ 101 ∷ [])) k) _ (worded 116 114 (117 ∷ 101 ∷ []) refl (refl, (refl, (refl, tt))))
      (alt (eqb b 102) (go (word 97 (108 ∷ 115 ∷ 101 ∷ [])) k) _ (worded 102 97 (108 ∷ 115 ∷ 101 ∷ []) refl (refl, (refl, (refl, (refl, tt)))))
      (alt (eqb b 110) (go (word 117 (108 ∷ 108 ∷ [])) k) _ (worded 110 117 (108 ∷ 108 ∷ []) refl (refl, (refl, (refl, tt)))) digit_begun))))

  literal_ends : (s : List ℕ) (p : ℕ) → step val b k ≡ simple b k → eqb b 34 ≡ false → run val k p (b ∷ s) ≡ Ok tt → literals.Ends k (b ∷ s) val p
  literal_ends s p o h l = go1 (subst (λ (y : Move). Lives y (λ m' κ'. run m' κ' (suc p) s)) o (run_lives val k p b s l))
    where
      to : (m : Mode) (κ : Stack) → Begun' b k (go m κ) → simple b k ≡ go m κ → run m κ (suc p) s ≡ Ok tt → literals.Ends k (b ∷ s) val p
      to val κ v q w = absurd v
      to first κ v q w = absurd v
      to done κ v q w = absurd v
      to key0 κ v q w = absurd v
      to key κ v q w = absurd v
      to colon κ v q w = absurd v
      to (str a i) κ v q w = absurd v
      to (num n) κ v q w =
          literals.ends_later k s val (num n) b p v.1 (o ∙ q ∙ ap (go (num n)) v.0)
          (num_ends k s n (suc p) (ap (λ (c : Stack). run (num n) c (suc p) s) (sym v.0) ∙ w))
      to (word x xs) κ v q w =
          literals.ends_later k s val (word x xs) b p v.1 (o ∙ q ∙ ap (go (word x xs)) v.0)
          (word_ends k xs x s (suc p) v.2 (ap (λ (c : Stack). run (word x xs) c (suc p) s) (sym v.0) ∙ w))

      go1 : Lives (simple b k) (λ m' κ'. run m' κ' (suc p) s) → literals.Ends k (b ∷ s) val p
      go1 (lives m κ q w) = to m κ (subst (λ (x : Move). Begun b k x) q (literal_begun h)).begun q w

-- ---- any value
-- how long the value is that starts a text
abbrev span : ℕ → List ℕ → ℕ
span b s = cond (is_block b) (to_rest 0 0 (b ∷ s)) (count is_token (b ∷ s))

abbrev Over : Stack → List ℕ → ℕ → ℕ → Bool → Type 0
Over k s p c x = run val k p (c ∷ s) ≡ run done k (p + cond x (to_rest 0 0 (c ∷ s)) (count is_token (c ∷ s))) (drop (cond x (to_rest 0 0 (c ∷ s)) (count is_token (c ∷ s))) (c ∷ s))

list_ends : (k : Stack) (s : List ℕ) (p b : ℕ) → is_space b ≡ false → run val k p (b ∷ s) ≡ Ok tt
    → run val k p (b ∷ s) ≡ run done k (p + span b s) (drop (span b s) (b ∷ s))
unfolding is_block
list_ends k s p b n h = go1 (eqb b 34) refl (eqb b 91) refl (eqb b 123) refl
  where
    whole_of : (c : ℕ) → eqb b c ≡ true → run val k p (c ∷ s) ≡ Ok tt
    whole_of c i = ap (λ (x : ℕ). run val k p (x ∷ s)) (sym (eqb-true b c i)) ∙ h

    back : (c : ℕ) → eqb b c ≡ true → Over k s p c true → Over k s p b true
    back c i g = subst (λ (x : ℕ). Over k s p x true) (sym (eqb-true b c i)) g

    go1 : (x : Bool) → eqb b 34 ≡ x → (y : Bool) → eqb b 91 ≡ y → (z : Bool) → eqb b 123 ≡ z → Over k s p b (x || y || z)
    go1 true i y j z l = back 34 i (string_ends k s p (whole_of 34 i))
    go1 false i true j z l = back 91 j (array_ends k s p (whole_of 91 j))
    go1 false i false j true l = back 123 l (object_ends k s p (whole_of 123 l))
    go1 false i false j false l = literal_ends b k s p (rw (n, j, l)) i h

-- a run that is whole goes on with a value
module _ (t : List ℕ) (p : ℕ) where
  pub byte_here : (b : ℕ) (s : List ℕ) → drop p t ≡ b ∷ s → byte_at t p ≡ b
  byte_here b s e =
      let f = get_or-drop p t 0 0 in
      let g : p + 0 ≡ p = omega arith in
      byte_at_lem t p ∙ sym (f ∙ ap (λ (x : ℕ). get_or t x 0) g) ∙ ap (λ (l : List ℕ). get_or l 0 0) e

  pub value_ends : (k : Stack) → is_space (byte_at t p) ≡ false → run_at t val k p ≡ Ok tt → run_at t val k p ≡ run_at t done k (end_of t p)
  unfolding run_at end_of closing_of literal_end
  value_ends k n h = go1 (drop p t) refl
    where
      go1 : (l : List ℕ) → drop p t ≡ l → run val k p (drop p t) ≡ run done k (cond (is_block (byte_at t p)) (p + to_rest 0 0 (drop p t)) (p + count is_token (drop p t)))
          (drop (cond (is_block (byte_at t p)) (p + to_rest 0 0 (drop p t)) (p + count is_token (drop p t))) t)
      go1 [] e = bad (sym (end_of_lem val k p refl) ∙ ap (λ (l : List ℕ). run val k p l) (sym e) ∙ h)
      go1 (b ∷ s) e =
          let f = byte_here b s e in
          let c = list_ends k s p b (ap is_space (sym f) ∙ n) (ap (λ (l : List ℕ). run val k p l) (sym e) ∙ h) in
          rw (f, e) (go2 (is_block b) b s e c)
        where
          go2 : (x : Bool) (b : ℕ) (s : List ℕ) → drop p t ≡ b ∷ s
              → run val k p (b ∷ s) ≡ run done k (p + cond x (to_rest 0 0 (b ∷ s)) (count is_token (b ∷ s))) (drop (cond x (to_rest 0 0 (b ∷ s)) (count is_token (b ∷ s))) (b ∷ s))
              → run val k p (b ∷ s) ≡ run done k (cond x (p + to_rest 0 0 (b ∷ s)) (p + count is_token (b ∷ s))) (drop (cond x (p + to_rest 0 0 (b ∷ s)) (p + count is_token (b ∷ s))) t)
          go2 true b s e c = c ∙ ap (λ (l : List ℕ). run done k (p + to_rest 0 0 (b ∷ s)) l) (ap (drop (to_rest 0 0 (b ∷ s))) (sym e) ∙ drop-drop (to_rest 0 0 (b ∷ s)) p t)
          go2 false b s e c = c ∙ ap (λ (l : List ℕ). run done k (p + count is_token (b ∷ s)) l) (ap (drop (count is_token (b ∷ s))) (sym e) ∙ drop-drop (count is_token (b ∷ s)) p t)
