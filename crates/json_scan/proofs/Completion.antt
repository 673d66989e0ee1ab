-- From every state that the automaton comes to, some bytes lead to a whole text. Assumes nothing.
use mathlib.Core.Path.{◌≡◌, refl, ap, subst, ◌∙◌}
use mathlib.Core.Bool.{Bool, true, false, cond}
use mathlib.Core.List.{List, [], ◌∷◌}
use Prim.Native.Nat.{ℕ, zero, suc, ◌≤◌}
use native.Mathlib.Omega.{arith}
use borrow.Author.Tests.{eq-eqb, le-leb}
use lib.ListN.{length}
use lib.Dec.{ltb, eqb}
use Rattle.std.specs.Prelude.{Ok}
use Rattle.answer.specs.declared.refusal.Why.TheVariants.{NotJson, NestedTooDeep}
use Rattle.json_scan.specs.Json.{deepest, Bracket, square, brace, Place, as_key, as_value, Inside, plain, esc, h1, h2, h2d, h3, h4, g3, g4, g5, g6, g7, g8, tail, Num, minus, nought, int, dot, frac, e, sign, exp, Mode, val, first, done, key0, key, colon, word, num, str, Stack, Move, go, die, inside, is_space, is_digit, is_hex, is_e, is_sign, is_high, is_low, is_short, is_d, spaced, opens, word_of, digit1, simple, begin, next, after, power, point, number, closed, rest, one, wide, text, shut, spelt, step, closes, onward, run, State, live, dead, start, moved, reach}
use Rattle.json_scan.specs.Meets.{closer}

-- the shapes of state that the automaton comes to
abbrev pub Top : Bracket → Stack → Type 0
Top x [] = ⊥
Top square (square ∷ k) = Unit {0}
Top square (brace ∷ k) = ⊥
Top brace (square ∷ k) = ⊥
Top brace (brace ∷ k) = Unit {0}

abbrev pub Placed : Place → Stack → Type 0
Placed as_key k = Top brace k
Placed as_value k = Unit {0}

abbrev pub Ranged : Inside → Type 0
Ranged plain = Unit {0}
Ranged esc = Unit {0}
Ranged h1 = Unit {0}
Ranged h2 = Unit {0}
Ranged h2d = Unit {0}
Ranged h3 = Unit {0}
Ranged h4 = Unit {0}
Ranged g3 = Unit {0}
Ranged g4 = Unit {0}
Ranged g5 = Unit {0}
Ranged g6 = Unit {0}
Ranged g7 = Unit {0}
Ranged g8 = Unit {0}
Ranged (tail lo hi n) = lo ≤ hi

abbrev pub Shaped : Mode → Stack → Type 0
Shaped val k = Unit {0}
Shaped first k = Top square k
Shaped done k = Unit {0}
Shaped key0 k = Top brace k
Shaped key k = Top brace k
Shaped colon k = Top brace k
Shaped (word x xs) k = Unit {0}
Shaped (num n) k = Unit {0}
Shaped (str w i) k = Placed w k × Ranged i

abbrev pub Leads : Move → Type 0
Leads (go m k) = Shaped m k
Leads (die n) = Unit {0}

either : (x : Bool) (a b : Move) → Leads a → Leads b → Leads (cond x a b)
either true a b p q = p
either false a b p q = q

ones : (x : Bool) (m : Mode) (k : Stack) → Shaped m k → Leads (one x m k)
ones x m k s = either x (go m k) (die NotJson) s tt

spaces : (m : Mode) (b : ℕ) (k : Stack) (x : Move) → Shaped m k → Leads x → Leads (spaced m k b x)
spaces m b k x s l = either (is_space b) (go m k) x s l

digit1_leads : (b : ℕ) (k : Stack) → Leads (digit1 b k)
digit1_leads b k = either (eqb b 48) (go (num nought) k) _ tt (ones (inside 49 57 b) (num int) k tt)

simple_leads : (b : ℕ) (k : Stack) → Leads (simple b k)
unfolding simple word_of
simple_leads b k =
    either (eqb b 34) (go (str as_value plain) k) _ (tt, tt)
    (either (eqb b 45) (go (num minus) k) _ tt
    (either (eqb b 116) (go (word 114 (117 ∷ 101 ∷ [])) k) _ tt
    (either (eqb b 102) (go (word 97 (108 ∷ 115 ∷ 101 ∷ [])) k) _ tt
    (either (eqb b 110) (go (word 117 (108 ∷ 108 ∷ [])) k) (digit1 b k) tt (digit1_leads b k)))))

begin_leads : (b : ℕ) (k : Stack) → Leads (begin b k)
begin_leads b k =
    either (eqb b 91) (opens square first k) _ (either (ltb (length k) deepest) (go first (square ∷ k)) (die NestedTooDeep) tt tt)
    (either (eqb b 123) (opens brace key0 k) (simple b k) (either (ltb (length k) deepest) (go key0 (brace ∷ k)) (die NestedTooDeep) tt tt) (simple_leads b k))

next_leads : (b : ℕ) (k : Stack) → Leads (next b k)
next_leads b [] = tt
next_leads b (square ∷ k) = either (eqb b 93) (go done k) _ tt (ones (eqb b 44) val (square ∷ k) tt)
next_leads b (brace ∷ k) = either (eqb b 125) (go done k) _ tt (ones (eqb b 44) key (brace ∷ k) tt)

after_leads : (b : ℕ) (k : Stack) → Leads (after b k)
after_leads b k = spaces done b k (next b k) tt (next_leads b k)

power_leads : (b : ℕ) (k : Stack) → Leads (power b k)
power_leads b k = either (is_e b) (go (num e) k) (after b k) tt (after_leads b k)

point_leads : (b : ℕ) (k : Stack) → Leads (point b k)
point_leads b k = either (eqb b 46) (go (num dot) k) (power b k) tt (power_leads b k)

number_leads : (n : Num) (b : ℕ) (k : Stack) → Leads (number n b k)
unfolding number
number_leads minus b k = digit1_leads b k
number_leads nought b k = point_leads b k
number_leads int b k = either (is_digit b) (go (num int) k) (point b k) tt (point_leads b k)
number_leads dot b k = ones (is_digit b) (num frac) k tt
number_leads frac b k = either (is_digit b) (go (num frac) k) (power b k) tt (power_leads b k)
number_leads e b k = either (is_sign b) (go (num sign) k) _ tt (ones (is_digit b) (num exp) k tt)
number_leads sign b k = ones (is_digit b) (num exp) k tt
number_leads exp b k = either (is_digit b) (go (num exp) k) (after b k) tt (after_leads b k)

closed_leads : (w : Place) (k : Stack) → Placed w k → Shaped (closed w) k
closed_leads as_key k p = p
closed_leads as_value k p = tt

wide_leads : (w : Place) (b : ℕ) (k : Stack) → Placed w k → Leads (wide w b k)
unfolding wide
wide_leads w b k p =
    either (inside 194 223 b) (go (str w (tail 128 191 0)) k) _ (p, omega arith)
    (either (eqb b 224) (go (str w (tail 160 191 1)) k) _ (p, omega arith)
    (either (eqb b 237) (go (str w (tail 128 159 1)) k) _ (p, omega arith)
    (either (inside 225 239 b) (go (str w (tail 128 191 1)) k) _ (p, omega arith)
    (either (eqb b 240) (go (str w (tail 144 191 2)) k) _ (p, omega arith)
    (either (eqb b 244) (go (str w (tail 128 143 2)) k) _ (p, omega arith)
    (ones (inside 241 243 b) (str w (tail 128 191 2)) k (p, omega arith)))))))

rest_ranged : (n : ℕ) → Ranged (rest n)
rest_ranged zero = tt
rest_ranged (suc n) = omega arith

text_leads : (w : Place) (i : Inside) (b : ℕ) (k : Stack) → Placed w k → Leads (text w i b k)
unfolding text
text_leads w plain b k p =
    either (eqb b 34) (go (closed w) k) _ (closed_leads w k p)
    (either (ltb b 32) (die NotJson) _ tt
    (either (eqb b 92) (go (str w esc) k) _ (p, tt)
    (either (ltb b 128) (go (str w plain) k) (wide w b k) (p, tt) (wide_leads w b k p))))
text_leads w esc b k p = either (is_short b) (go (str w plain) k) _ (p, tt) (ones (eqb b 117) (str w h1) k (p, tt))
text_leads w h1 b k p = either (is_d b) (go (str w h2d) k) _ (p, tt) (ones (is_hex b) (str w h2) k (p, tt))
text_leads w h2 b k p = ones (is_hex b) (str w h3) k (p, tt)
text_leads w h2d b k p = either (inside 48 55 b) (go (str w h3) k) _ (p, tt) (ones (is_high b) (str w g3) k (p, tt))
text_leads w h3 b k p = ones (is_hex b) (str w h4) k (p, tt)
text_leads w h4 b k p = ones (is_hex b) (str w plain) k (p, tt)
text_leads w g3 b k p = ones (is_hex b) (str w g4) k (p, tt)
text_leads w g4 b k p = ones (is_hex b) (str w g5) k (p, tt)
text_leads w g5 b k p = ones (eqb b 92) (str w g6) k (p, tt)
text_leads w g6 b k p = ones (eqb b 117) (str w g7) k (p, tt)
text_leads w g7 b k p = ones (is_d b) (str w g8) k (p, tt)
text_leads w g8 b k p = ones (is_low b) (str w h3) k (p, tt)
text_leads w (tail lo hi n) b k p = ones (inside lo hi b) (str w (rest n)) k (p, rest_ranged n)

spelt_shaped : (xs : List ℕ) (k : Stack) → Shaped (spelt xs) k
spelt_shaped [] k = tt
spelt_shaped (x ∷ xs) k = tt

shut_leads : (k : Stack) → Leads (shut k)
shut_leads [] = tt
shut_leads (x ∷ k) = tt

-- a step leads from such a shape to such a shape
pub step_leads : (m : Mode) (b : ℕ) (k : Stack) → Shaped m k → Leads (step m b k)
step_leads val b k s = spaces val b k (begin b k) tt (begin_leads b k)
step_leads first b k s = spaces first b k _ s (either (eqb b 93) (shut k) (begin b k) (shut_leads k) (begin_leads b k))
step_leads done b k s = after_leads b k
step_leads key0 b k s = spaces key0 b k _ s (either (eqb b 125) (shut k) _ (shut_leads k) (ones (eqb b 34) (str as_key plain) k (s, tt)))
step_leads key b k s = spaces key b k _ s (ones (eqb b 34) (str as_key plain) k (s, tt))
step_leads colon b k s = spaces colon b k _ s (ones (eqb b 58) val k tt)
step_leads (word x xs) b k s = ones (eqb b x) (spelt xs) k (spelt_shaped xs k)
step_leads (num n) b k s = number_leads n b k
step_leads (str w i) b k s = text_leads w i b k s.0

-- what closes the brackets that are open
unfoldable pub closers : Stack → List ℕ
closers [] = []
closers (x ∷ k) = closer x ∷ closers k

done_close : (k : Stack) (p : ℕ) → run done k p (closers k) ≡ Ok tt
unfolding run closers
done_close [] p = refl
done_close (square ∷ k) p = done_close k (suc p)
done_close (brace ∷ k) p = done_close k (suc p)

num_close : (n : Num) → closes n ≡ true → (k : Stack) (p : ℕ) → run (num n) k p (closers k) ≡ Ok tt
unfolding run closers number
num_close minus c k p = absurd (no c)
  where
    no : false ≡ true → ⊥
    no c = let z : ◌≡◌ {A = ℕ} 0 1 = cc in omega arith
num_close nought c [] p = refl
num_close nought c (square ∷ k) p = done_close k (suc p)
num_close nought c (brace ∷ k) p = done_close k (suc p)
num_close int c [] p = refl
num_close int c (square ∷ k) p = done_close k (suc p)
num_close int c (brace ∷ k) p = done_close k (suc p)
num_close dot c k p = absurd (no c)
  where
    no : false ≡ true → ⊥
    no c = let z : ◌≡◌ {A = ℕ} 0 1 = cc in omega arith
num_close frac c [] p = refl
num_close frac c (square ∷ k) p = done_close k (suc p)
num_close frac c (brace ∷ k) p = done_close k (suc p)
num_close e c k p = absurd (no c)
  where
    no : false ≡ true → ⊥
    no c = let z : ◌≡◌ {A = ℕ} 0 1 = cc in omega arith
num_close sign c k p = absurd (no c)
  where
    no : false ≡ true → ⊥
    no c = let z : ◌≡◌ {A = ℕ} 0 1 = cc in omega arith
num_close exp c [] p = refl
num_close exp c (square ∷ k) p = done_close k (suc p)
num_close exp c (brace ∷ k) p = done_close k (suc p)

-- from the state some text is whole
abbrev pub Whole_from : Mode → Stack → Type 0
Whole_from m k = (s : List ℕ) × ((p : ℕ) → run m k p s ≡ Ok tt)

-- one byte before it
byte_first : (m : Mode) (k : Stack) (b : ℕ) (m' : Mode) (k' : Stack) → step m b k ≡ go m' k' → Whole_from m' k' → Whole_from m k
unfolding run
byte_first m k b m' k' h W = (b ∷ W.0, λ p. ap (λ (x : Move). onward x p (λ m'' k''. run m'' k'' (suc p) W.0)) h ∙ W.1 (suc p))

done_whole : (k : Stack) → Whole_from done k
done_whole k = (closers k, done_close k)

-- an empty string as the value
val_whole : (k : Stack) → Whole_from val k
unfolding simple text
val_whole k = byte_first val k 34 (str as_value plain) k refl (byte_first (str as_value plain) k 34 done k refl (done_whole k))

colon_whole : (k : Stack) → Whole_from colon k
colon_whole k = byte_first colon k 58 val k refl (val_whole k)

closed_whole : (w : Place) (k : Stack) → Whole_from (closed w) k
closed_whole as_key k = colon_whole k
closed_whole as_value k = done_whole k

module _ (w : Place) (k : Stack) where
  abbrev At : Inside → Type 0
  At i = Whole_from (str w i) k

  plain_whole : At plain
  unfolding text
  plain_whole = byte_first (str w plain) k 34 (closed w) k refl (closed_whole w k)

  h4_whole : At h4
  unfolding text
  h4_whole = byte_first (str w h4) k 48 (str w plain) k refl plain_whole

  h3_whole : At h3
  unfolding text
  h3_whole = byte_first (str w h3) k 48 (str w h4) k refl h4_whole

  h2_whole : At h2
  unfolding text
  h2_whole = byte_first (str w h2) k 48 (str w h3) k refl h3_whole

  g8_whole : At g8
  unfolding text
  g8_whole = byte_first (str w g8) k 67 (str w h3) k refl h3_whole

  g7_whole : At g7
  unfolding text
  g7_whole = byte_first (str w g7) k 100 (str w g8) k refl g8_whole

  g6_whole : At g6
  unfolding text
  g6_whole = byte_first (str w g6) k 117 (str w g7) k refl g7_whole

  g5_whole : At g5
  unfolding text
  g5_whole = byte_first (str w g5) k 92 (str w g6) k refl g6_whole

  g4_whole : At g4
  unfolding text
  g4_whole = byte_first (str w g4) k 48 (str w g5) k refl g5_whole

  tail_whole : (n lo hi : ℕ) → lo ≤ hi → At (tail lo hi n)
  unfolding text
  tail_whole zero lo hi h = byte_first (str w (tail lo hi zero)) k lo (str w plain) k (simp (le-leb lo lo (omega arith), le-leb lo hi h)) plain_whole
  tail_whole (suc n) lo hi h =
      byte_first (str w (tail lo hi (suc n))) k lo (str w (tail 128 191 n)) k (simp (le-leb lo lo (omega arith), le-leb lo hi h)) (tail_whole n 128 191 (omega arith))

  str_whole : (i : Inside) → Ranged i → At i
  unfolding text
  str_whole plain r = plain_whole
  str_whole esc r = byte_first (str w esc) k 110 (str w plain) k refl plain_whole
  str_whole h1 r = byte_first (str w h1) k 48 (str w h2) k refl h2_whole
  str_whole h2 r = h2_whole
  str_whole h2d r = byte_first (str w h2d) k 48 (str w h3) k refl h3_whole
  str_whole h3 r = h3_whole
  str_whole h4 r = h4_whole
  str_whole g3 r = byte_first (str w g3) k 48 (str w g4) k refl g4_whole
  str_whole g4 r = g4_whole
  str_whole g5 r = g5_whole
  str_whole g6 r = g6_whole
  str_whole g7 r = g7_whole
  str_whole g8 r = g8_whole
  str_whole (tail lo hi n) r = tail_whole n lo hi r

num_whole : (n : Num) (k : Stack) → Whole_from (num n) k
unfolding number
num_whole minus k = byte_first (num minus) k 48 (num nought) k refl (closers k, num_close nought refl k)
num_whole nought k = (closers k, num_close nought refl k)
num_whole int k = (closers k, num_close int refl k)
num_whole dot k = byte_first (num dot) k 48 (num frac) k refl (closers k, num_close frac refl k)
num_whole frac k = (closers k, num_close frac refl k)
num_whole e k = byte_first (num e) k 48 (num exp) k refl (closers k, num_close exp refl k)
num_whole sign k = byte_first (num sign) k 48 (num exp) k refl (closers k, num_close exp refl k)
num_whole exp k = (closers k, num_close exp refl k)

word_whole : (xs : List ℕ) (x : ℕ) (k : Stack) → Whole_from (word x xs) k
word_whole [] x k = byte_first (word x []) k x done k (ap (λ (y : Bool). one y done k) (eq-eqb x x refl)) (done_whole k)
word_whole (y ∷ ys) x k = byte_first (word x (y ∷ ys)) k x (word y ys) k (ap (λ (z : Bool). one z (word y ys) k) (eq-eqb x x refl)) (word_whole ys y k)

-- from every state of these shapes some text is whole
pub completed : (m : Mode) (k : Stack) → Shaped m k → Whole_from m k
completed val k s = val_whole k
completed first [] s = absurd s
completed first (square ∷ k) s = byte_first first (square ∷ k) 93 done k refl (done_whole k)
completed first (brace ∷ k) s = absurd s
completed done k s = done_whole k
completed key0 [] s = absurd s
completed key0 (square ∷ k) s = absurd s
completed key0 (brace ∷ k) s = byte_first key0 (brace ∷ k) 125 done k refl (done_whole k)
completed key k s = byte_first key k 34 (str as_key plain) k refl (plain_whole as_key k)
completed colon k s = colon_whole k
completed (word x xs) k s = word_whole xs x k
completed (num n) k s = num_whole n k
completed (str w i) k s = str_whole w k i s.1

-- every state that the automaton comes to is dead or has such a shape
abbrev Fit : State → Type 0
Fit (live m k p) = Shaped m k
Fit (dead w p) = Unit {0}

fit_moved : (v : Move) (p : ℕ) → Leads v → Fit (moved v p)
fit_moved (go m k) p l = l
fit_moved (die w) p l = tt

reach_fit : (a : List ℕ) (s : State) → Fit s → Fit (reach s a)
unfolding reach
reach_fit [] s f = f
reach_fit (x ∷ a) (live m k p) f = reach_fit a (moved (step m x k) p) (fit_moved (step m x k) p (step_leads m x k f))
reach_fit (x ∷ a) (dead w p) f = tt

pub live_shaped : (a : List ℕ) (m : Mode) (k : Stack) (p : ℕ) → reach start a ≡ live m k p → Shaped m k
live_shaped a m k p h = subst Fit h (reach_fit a start tt)
