-- Refusal 3 stands at an opening bracket inside 64 open ones, and every other fault of a run is 2. Assumes nothing.
use mathlib.Core.Path.{◌≡◌, refl, sym, subst, ◌∙◌}
use mathlib.Core.Bool.{Bool, true, false, cond}
use mathlib.Core.Logic.{◌⊎◌, inl, inr, ⊎_elim}
use mathlib.Core.List.{List, [], ◌∷◌, ◌++◌}
use Prim.Native.Nat.{ℕ, suc, ◌+◌, ◌≤◌}
use native.Mathlib.Omega.{arith}
use borrow.Author.Tests.{eqb-true, ltb-true, ltb-false}
use lib.ListN.{length}
use lib.Dec.{ltb, eqb}
use Rattle.answer.specs.declared.refusal.Why.TheVariants.{NotJson, NestedTooDeep}
use Rattle.json_scan.specs.Json.{Bracket, square, brace, Place, as_key, as_value, Inside, plain, esc, h1, h2, h2d, h3, h4, g3, g4, g5, g6, g7, g8, tail, Num, minus, nought, int, dot, frac, e, sign, exp, Mode, val, first, done, key0, key, colon, word, num, str, Stack, Move, go, die, inside, is_space, is_digit, is_hex, is_e, is_sign, is_high, is_low, is_short, is_d, opens, word_of, digit1, simple, begin, next, after, power, point, number, closed, rest, one, wide, text, shut, spelt, step, deepest, fault, run, verdict, live, dead, start, moved, reach}
use Rattle.json_scan.proofs.Parts.{dead_stays}
use Rattle.json_scan.proofs.Longest.{Stopped, stopped}

abbrev pub Opens : ℕ → Type 0
Opens b = (b ≡ 91) ⊎ (b ≡ 123)

-- a value may begin in this mode
abbrev pub Begins : Mode → Type 0
Begins val = Unit {0}
Begins first = Unit {0}
Begins done = ⊥
Begins key0 = ⊥
Begins key = ⊥
Begins colon = ⊥
Begins (word x xs) = ⊥
Begins (num n) = ⊥
Begins (str w i) = ⊥

-- what a move from the stack k at the byte b may be, where B says whether a value may begin
abbrev pub Sane : Type 0 → ℕ → Stack → Move → Type 0
Sane B b k (go m l) = length k ≤ deepest → length l ≤ deepest
Sane B b k (die w) = (w ≡ NotJson) ⊎ ((w ≡ NestedTooDeep) × (deepest ≤ length k) × Opens b × B)

module _ (B : Type 0) (b : ℕ) (k : Stack) where
  pk : (x : Bool) (u v : Move) → Sane B b k u → Sane B b k v → Sane B b k (cond x u v)
  pk true u v p q = p
  pk false u v p q = q

  pk_if : (x : Bool) (u v : Move) → (x ≡ true → Sane B b k u) → Sane B b k v → Sane B b k (cond x u v)
  pk_if true u v p q = p refl
  pk_if false u v p q = q

  stay : (x : Bool) (m : Mode) (v : Move) → Sane B b k v → Sane B b k (cond x (go m k) v)
  stay x m v q = pk x (go m k) v (λ h. h) q

  one_s : (x : Bool) (m : Mode) → Sane B b k (one x m k)
  one_s x m = stay x m (die NotJson) (inl refl)

  opens_s : (x : Bracket) (m : Mode) → B → Opens b → Sane B b k (opens x m k)
  opens_s x m v o = cases (ltb (length k) deepest) refl
    where
      cases : (y : Bool) → ltb (length k) deepest ≡ y → Sane B b k (cond y (go m (x ∷ k)) (die NestedTooDeep))
      cases true i = λ h. let l = ltb-true (length k) deepest i in omega arith
      cases false i = inr (refl, ltb-false (length k) deepest i, o, v)

  digit1_s : Sane B b k (digit1 b k)
  digit1_s = stay (eqb b 48) (num nought) _ (one_s (inside 49 57 b) (num int))

  simple_s : Sane B b k (simple b k)
  unfolding simple word_of
  simple_s =
      stay (eqb b 34) (str as_value plain) _
      (stay (eqb b 45) (num minus) _
      (stay (eqb b 116) (word 114 (117 ∷ 101 ∷ [])) _
      (stay (eqb b 102) (word 97 (108 ∷ 115 ∷ 101 ∷ [])) _
      (stay (eqb b 110) (word 117 (108 ∷ 108 ∷ [])) (digit1 b k) digit1_s))))

  begin_s : B → Sane B b k (begin b k)
  begin_s v =
      pk_if (eqb b 91) (opens square first k) _ (λ i. opens_s square first v (inl (eqb-true b 91 i)))
      (pk_if (eqb b 123) (opens brace key0 k) (simple b k) (λ i. opens_s brace key0 v (inr (eqb-true b 123 i))) simple_s)

next_s : (B : Type 0) (b : ℕ) (k : Stack) → Sane B b k (next b k)
next_s B b [] = inl refl
next_s B b (square ∷ k) = pk B b (square ∷ k) (eqb b 93) (go done k) _ (λ h. omega arith) (one_s B b (square ∷ k) (eqb b 44) val)
next_s B b (brace ∷ k) = pk B b (brace ∷ k) (eqb b 125) (go done k) _ (λ h. omega arith) (one_s B b (brace ∷ k) (eqb b 44) key)

shut_s : (B : Type 0) (b : ℕ) (k : Stack) → Sane B b k (shut k)
shut_s B b [] = inl refl
shut_s B b (x ∷ k) = λ h. omega arith

module _ (B : Type 0) (b : ℕ) (k : Stack) where
  after_s : Sane B b k (after b k)
  after_s = stay B b k (is_space b) done (next b k) (next_s B b k)

  power_s : Sane B b k (power b k)
  power_s = stay B b k (is_e b) (num e) (after b k) after_s

  point_s : Sane B b k (point b k)
  point_s = stay B b k (eqb b 46) (num dot) (power b k) power_s

  number_s : (n : Num) → Sane B b k (number n b k)
  unfolding number
  number_s minus = digit1_s B b k
  number_s nought = point_s
  number_s int = stay B b k (is_digit b) (num int) (point b k) point_s
  number_s dot = one_s B b k (is_digit b) (num frac)
  number_s frac = stay B b k (is_digit b) (num frac) (power b k) power_s
  number_s e = stay B b k (is_sign b) (num sign) _ (one_s B b k (is_digit b) (num exp))
  number_s sign = one_s B b k (is_digit b) (num exp)
  number_s exp = stay B b k (is_digit b) (num exp) (after b k) after_s

  wide_s : (w : Place) → Sane B b k (wide w b k)
  unfolding wide
  wide_s w =
      stay B b k (inside 194 223 b) (str w (tail 128 191 0)) _
      (stay B b k (eqb b 224) (str w (tail 160 191 1)) _
      (stay B b k (eqb b 237) (str w (tail 128 159 1)) _
      (stay B b k (inside 225 239 b) (str w (tail 128 191 1)) _
      (stay B b k (eqb b 240) (str w (tail 144 191 2)) _
      (stay B b k (eqb b 244) (str w (tail 128 143 2)) _
      (one_s B b k (inside 241 243 b) (str w (tail 128 191 2))))))))

  text_s : (w : Place) (i : Inside) → Sane B b k (text w i b k)
  unfolding text
  text_s w plain =
      stay B b k (eqb b 34) (closed w) _
      (pk B b k (ltb b 32) (die NotJson) _ (inl refl)
      (stay B b k (eqb b 92) (str w esc) _ (stay B b k (ltb b 128) (str w plain) (wide w b k) (wide_s w))))
  text_s w esc = stay B b k (is_short b) (str w plain) _ (one_s B b k (eqb b 117) (str w h1))
  text_s w h1 = stay B b k (is_d b) (str w h2d) _ (one_s B b k (is_hex b) (str w h2))
  text_s w h2 = one_s B b k (is_hex b) (str w h3)
  text_s w h2d = stay B b k (inside 48 55 b) (str w h3) _ (one_s B b k (is_high b) (str w g3))
  text_s w h3 = one_s B b k (is_hex b) (str w h4)
  text_s w h4 = one_s B b k (is_hex b) (str w plain)
  text_s w g3 = one_s B b k (is_hex b) (str w g4)
  text_s w g4 = one_s B b k (is_hex b) (str w g5)
  text_s w g5 = one_s B b k (eqb b 92) (str w g6)
  text_s w g6 = one_s B b k (eqb b 117) (str w g7)
  text_s w g7 = one_s B b k (is_d b) (str w g8)
  text_s w g8 = one_s B b k (is_low b) (str w h3)
  text_s w (tail lo hi n) = one_s B b k (inside lo hi b) (str w (rest n))

module _ (b : ℕ) (k : Stack) where
  pub step_sane : (m : Mode) → Sane (Begins m) b k (step m b k)
  step_sane val = stay (Begins val) b k (is_space b) val (begin b k) (begin_s (Begins val) b k tt)
  step_sane first =
      stay (Begins first) b k (is_space b) first _
      (pk (Begins first) b k (eqb b 93) (shut k) (begin b k) (shut_s (Begins first) b k) (begin_s (Begins first) b k tt))
  step_sane done = after_s (Begins done) b k
  step_sane key0 =
      stay (Begins key0) b k (is_space b) key0 _
      (pk (Begins key0) b k (eqb b 125) (shut k) _ (shut_s (Begins key0) b k) (one_s (Begins key0) b k (eqb b 34) (str as_key plain)))
  step_sane key = stay (Begins key) b k (is_space b) key _ (one_s (Begins key) b k (eqb b 34) (str as_key plain))
  step_sane colon = stay (Begins colon) b k (is_space b) colon _ (one_s (Begins colon) b k (eqb b 58) val)
  step_sane (word x xs) = one_s (Begins (word x xs)) b k (eqb b x) (spelt xs)
  step_sane (num n) = number_s (Begins (num n)) b k n
  step_sane (str w i) = text_s (Begins (str w i)) b k w i

-- at most 64 brackets are ever open
pub reach_depth : (a : List ℕ) (m : Mode) (k : Stack) (p : ℕ) (m' : Mode) (k' : Stack) (q : ℕ) → length k ≤ deepest → reach (live m k p) a ≡ live m' k' q
    → length k' ≤ deepest
unfolding reach
reach_depth [] m k p m' k' q h g = let i : k ≡ k' = cc in subst (λ (l : Stack). length l ≤ deepest) i h
reach_depth (b ∷ a) m k p m' k' q h g = cases (step m b k) (step_sane b k m) g (reach_depth a)
  where
    cases : (v : Move) → Sane (Begins m) b k v → reach (moved v p) a ≡ live m' k' q
        → ((m'' : Mode) (k'' : Stack) (p'' : ℕ) (n : Mode) (l : Stack) (q'' : ℕ) → length k'' ≤ deepest → reach (live m'' k'' p'') a ≡ live n l q'' → length l ≤ deepest)
        → length k' ≤ deepest
    cases (go m'' k'') s i r = r m'' k'' (suc p) m' k' q (s h) i
    cases (die w) s i r = absurd (no (sym (dead_stays a w p) ∙ i))
      where
        no : dead w p ≡ live m' k' q → ⊥
        no i = let z : ◌≡◌ {A = ℕ} 0 1 = cc in omega arith

-- where refusal 3 stands: after bytes that leave 64 brackets open, an opening bracket
pub record Deep (t : List ℕ) (p : ℕ) : Type 0 where
  pub before : List ℕ
  pub beyond : List ℕ
  pub byte : ℕ
  pub mode : Mode
  pub stack : Stack
  pub led : reach start before ≡ live mode stack p
  pub place : p ≡ length before
  pub full : length stack ≡ deepest
  pub bracket : Opens byte
  pub begins : Begins mode
  pub parts : t ≡ before ++ byte ∷ beyond

apart : NestedTooDeep ≡ NotJson → ⊥
apart i = let z : ◌≡◌ {A = ℕ} 0 1 = cc in omega arith

pub deep : (t : List ℕ) (p : ℕ) → verdict t ≡ fault NestedTooDeep p → Deep t p
unfolding verdict run
deep t p h = ⊎_elim (λ i. absurd (apart i.1)) inside_it S.how
  where
    S : Stopped val [] 0 NestedTooDeep p t
    S = stopped t val [] 0 NestedTooDeep p tt h

    inside_it : (b : ℕ) × (bs : List ℕ) × (t ≡ S.before ++ b ∷ bs) × (step S.mode b S.stack ≡ die NestedTooDeep) → Deep t p
    inside_it x = ⊎_elim (λ j. absurd (apart j)) found (subst (Sane (Begins S.mode) x.0 S.stack) x.3 (step_sane x.0 S.stack S.mode))
      where
        found : (NestedTooDeep ≡ NestedTooDeep) × (deepest ≤ length S.stack) × Opens x.0 × Begins S.mode → Deep t p
        found y =
            let w : p ≡ 0 + length S.before = S.where_at in
            let d : length S.stack ≤ deepest = reach_depth S.before val [] 0 S.mode S.stack p (omega arith) S.led in
            let f : deepest ≤ length S.stack = y.1 in
            record {
              before = S.before;
              beyond = x.1;
              byte = x.0;
              mode = S.mode;
              stack = S.stack;
              led = S.led;
              place = omega arith;
              full = omega arith;
              bracket = y.2;
              begins = y.3;
              parts = x.2;
            }
