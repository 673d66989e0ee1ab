-- The automaton takes the numbers of the grammar, where a byte follows that no number has, or the text ends. Assumes nothing.
use mathlib.Core.Path.{◌≡◌, refl, sym, ap, subst, ◌∙◌}
use mathlib.Core.Bool.{Bool, true, false, false≢true}
use mathlib.Core.Logic.{inl}
use mathlib.Core.List.{List, [], ◌∷◌, ◌++◌, append_assoc}
use Prim.Native.Nat.{ℕ, ◌≤◌}
use native.Mathlib.Omega.{arith}
use borrow.Author.Tests.{ne_eqb}
use lib.Dec.{eqb}
use Rattle.json_scan.specs.Json.{Mode, Stack, Move, go, step, closes, is_digit, is_e, one, Num, num, done, number as number-move}
use Rattle.json_scan.specs.Json as A
use Rattle.grammar.specs.Grammar.{Byte, ◌·◌, join, ◌or◌, this, that, Optional, absent, present, Many, DIGIT, digit1_9, int, frac, exp, number}
use Rattle.grammar.proofs.Endings.{ending, going}
use Rattle.grammar.proofs.Takes.{Takes, Like, like_then, take_byte, take_range, take_alt, take_join, take_many}
use Rattle.grammar.proofs.Classes.{inside_true}

-- a byte that no number has after a digit
pub record Stops (b : ℕ) : Type 0 where
  pub no_digit : is_digit b ≡ false
  pub no_point : eqb b 46 ≡ false
  pub no_e : is_e b ≡ false

pub data Follow : List ℕ → Type 0 where
  ends : Follow []
  stops : {b : ℕ} {u : List ℕ} → Stops b → Follow (b ∷ u)

-- such a byte does after a number what it does after a value
closed_step : (n : Num) → closes n ≡ true → (b : ℕ) (k : Stack) → Stops b → step (num n) b k ≡ step done b k
unfolding number-move
closed_step A.minus c b k s = absurd (false≢true c)
closed_step A.nought c b k s = simp (s.no_point, s.no_e)
closed_step A.int c b k s = simp (s.no_digit, s.no_point, s.no_e)
closed_step A.dot c b k s = absurd (false≢true c)
closed_step A.frac c b k s = simp (s.no_digit, s.no_e)
closed_step A.e c b k s = absurd (false≢true c)
closed_step A.sign c b k s = absurd (false≢true c)
closed_step A.exp c b k s = simp s.no_digit

closed_ending : (n : Num) → closes n ≡ true → (k : Stack) {u : List ℕ} → Follow u → ending (num n) k u ≡ ending done k u
unfolding ending
closed_ending n c k ends = rw c
closed_ending n c k (stops {b} {u} s) = ap (λ (v : Move). going v (λ m' k'. ending m' k' u)) (closed_step n c b k s)

module _ (Too : Type 0) where
  -- over the bytes of the rule, before what may follow a value, the automaton comes to the end of a value
  pub record Ends (P : List ℕ → Type 0) (m : Mode) (k : Stack) : Type 0 where
    pub ended : (s : List ℕ) → P s → (u : List ℕ) → Follow u → Like Too (ending m k (s ++ u)) (ending done k u)

module _ {Too : Type 0} {m : Mode} {k : Stack} where
  pub end_after : {P Q : List ℕ → Type 0} {m' : Mode} → Takes Too P m k m' k → Ends Too Q m' k → Ends Too (P · Q) m k
  end_after {P} {Q} {m'} p q = record { ended = λ s d u f. on d u f }
    where
      on : {s : List ℕ} → (P · Q) s → (u : List ℕ) → Follow u → Like Too (ending m k (s ++ u)) (ending done k u)
      on (join {s} {t} c d) u f =
          subst (λ (y : List ℕ). Like Too (ending m k y) (ending done k u)) (sym (append_assoc s t u))
          (like_then Too (p.took s c (t ++ u)) (q.ended t d u f))

  pub end_alt : {P Q : List ℕ → Type 0} → Ends Too P m k → Ends Too Q m k → Ends Too (P or Q) m k
  end_alt {P} {Q} p q = record { ended = λ s d u f. on d u f }
    where
      on : {s : List ℕ} → (P or Q) s → (u : List ℕ) → Follow u → Like Too (ending m k (s ++ u)) (ending done k u)
      on (this d) u f = p.ended _ d u f
      on (that d) u f = q.ended _ d u f

  pub end_taken : {P : List ℕ → Type 0} → Takes Too P m k done k → Ends Too P m k
  end_taken p = record { ended = λ s d u f. p.took s d u }

module _ {Too : Type 0} (k : Stack) where
  digit_in : (n n' : Num) → ((b : ℕ) → is_digit b ≡ true → step (num n) b k ≡ go (num n') k) → Takes Too DIGIT (num n) k (num n') k
  digit_in n n' h = take_range 48 57 (λ b l g. h b (inside_true 48 57 b l g))

  -- nothing more, in a number that may end here
  end_nothing : (n : Num) → closes n ≡ true → {P : List ℕ → Type 0} → Takes Too P (num n) k (num n) k → Ends Too P (num n) k
  end_nothing n c p = record { ended = λ s d u f. like_then Too (p.took s d u) (inl (closed_ending n c k f)) }

  -- [ P ] Q
  end_optional : {m : Mode} {P Q : List ℕ → Type 0} → Ends Too Q m k → Ends Too (P · Q) m k → Ends Too (Optional P · Q) m k
  end_optional {m} {P} {Q} q pq = record { ended = λ s d u f. on d u f }
    where
      on : {s : List ℕ} → (Optional P · Q) s → (u : List ℕ) → Follow u → Like Too (ending m k (s ++ u)) (ending done k u)
      on (join absent d) u f = q.ended _ d u f
      on (join (present c) d) u f = pq.ended _ (join c d) u f

  -- [ P ]
  end_optional_last : (n : Num) → closes n ≡ true → {P : List ℕ → Type 0} → Ends Too P (num n) k → Ends Too (Optional P) (num n) k
  end_optional_last n c {P} p = record { ended = λ s d u f. on d u f }
    where
      on : {s : List ℕ} → Optional P s → (u : List ℕ) → Follow u → Like Too (ending (num n) k (s ++ u)) (ending done k u)
      on absent u f = inl (closed_ending n c k f)
      on (present d) u f = p.ended _ d u f

  end_exp : (n : Num) → closes n ≡ true → step (num n) 101 k ≡ go (num A.e) k → step (num n) 69 k ≡ go (num A.e) k → Ends Too (Optional exp) (num n) k
  unfolding number-move
  end_exp n c l g =
      end_optional_last n c
      (end_after (take_alt (take_byte 101 l) (take_byte 69 g))
      (end_optional
      (end_after (take_range 48 57 first_digit) digits)
      (end_after (take_alt (take_byte 45 refl) (take_byte 43 refl)) (end_after (digit_in A.sign A.exp (λ b h. ap (λ (x : Bool). one x (num A.exp) k) h)) digits))))
    where
      digits : Ends Too (Many DIGIT) (num A.exp) k
      digits = end_nothing A.exp refl (take_many (digit_in A.exp A.exp (λ b h. rw h)))

      first_digit : (b : ℕ) → 48 ≤ b → b ≤ 57 → step (num A.e) b k ≡ go (num A.exp) k
      first_digit b l h = simp (ne_eqb b 43 (λ x. omega arith), ne_eqb b 45 (λ x. omega arith), inside_true 48 57 b l h)

  end_fraction : (n : Num) → closes n ≡ true → step (num n) 46 k ≡ go (num A.dot) k → step (num n) 101 k ≡ go (num A.e) k → step (num n) 69 k ≡ go (num A.e) k
      → Ends Too (Optional frac · Optional exp) (num n) k
  unfolding number-move
  end_fraction n c p l g =
      end_optional (end_exp n c l g)
      (end_after
      (take_join (take_byte 46 p)
      (take_join (digit_in A.dot A.frac (λ b h. ap (λ (x : Bool). one x (num A.frac) k) h)) (take_many (digit_in A.frac A.frac (λ b h. rw h)))))
      (end_exp A.frac refl refl refl))

  -- from the first digit on, in a mode that does with a digit what the automaton does after a minus
  end_int : (m : Mode) → ((b : ℕ) → 48 ≤ b → b ≤ 57 → step m b k ≡ step (num A.minus) b k) → Ends Too (int · Optional frac · Optional exp) m k
  unfolding number-move
  end_int m like = record { ended = λ s d u f. on d u f }
    where
      nought : Ends Too (Byte 48 · Optional frac · Optional exp) m k
      nought = end_after (take_byte 48 (like 48 (omega arith) (omega arith))) (end_fraction A.nought refl refl refl refl)

      nonzero : Ends Too ((digit1_9 · Many DIGIT) · Optional frac · Optional exp) m k
      nonzero =
          end_after
          (take_join
          (take_range 49 57 (λ b l g. like b (omega arith) g ∙ simp (ne_eqb b 48 (λ x. omega arith), inside_true 49 57 b l g)))
          (take_many (digit_in A.int A.int (λ b h. rw h))))
          (end_fraction A.int refl refl refl refl)

      on : {s : List ℕ} → (int · Optional frac · Optional exp) s → (u : List ℕ) → Follow u → Like Too (ending m k (s ++ u)) (ending done k u)
      on (join (this c) d) u f = nought.ended _ (join c d) u f
      on (join (that c) d) u f = nonzero.ended _ (join c d) u f

  -- a number
  pub end_number : (m : Mode) → step m 45 k ≡ go (num A.minus) k → ((b : ℕ) → 48 ≤ b → b ≤ 57 → step m b k ≡ step (num A.minus) b k) → Ends Too number m k
  end_number m h like = end_optional (end_int m like) (end_after (take_byte 45 h) (end_int (num A.minus) (λ b l g. refl)))
