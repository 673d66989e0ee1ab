-- The decimal digits of a number: what they stand for, and that they are a number of the grammar.
-- Assumes nothing.
use mathlib.Core.Path.{◌≡◌, refl, sym, ap, subst, ◌∙◌}
use mathlib.Core.Bool.{Bool, true, false, cond}
use mathlib.Core.List.{List, [], ◌∷◌, ◌++◌, append_assoc, append-nil}
use Prim.Native.Nat.{ℕ, zero, suc, ◌+◌, ◌-◌, ◌*◌, ◌/◌, ◌%◌, ◌^◌, ◌≤◌, ◌<◌}
use native.Mathlib.Omega.{arith}
use native.Mathlib.Decide.{dec_lt}
use lib.Dec.{ltb}
use borrow.Author.Tests.{ltb-true, ltb-false}
use Rattle.ground.specs.Bytes.{byte_at}
use Rattle.canonical.specs.Decimal.{digit, digits_of, decimal}
use Rattle.grammar.specs.Grammar.{bytes, within, ◌·◌, join, this, that, absent, Many, none, more, DIGIT, digit1_9, int, number}
use Rattle.legible.specs.Digits.{number_from, number_of}

-- ---- what they stand for

from_append : (n : ℕ) (a b : List ℕ) → number_from n (a ++ b) ≡ number_from (number_from n a) b
unfolding number_from
from_append n [] b = refl
from_append n (x ∷ a) b = from_append (n * 10 + (x - 48)) a b

from_digit : (n d : ℕ) → number_from n (digit d) ≡ n * 10 + d
unfolding number_from
from_digit n d = omega arith

pub digits_number : (k n : ℕ) → n < 10 ^ k → number_of (digits_of k n) ≡ n
unfolding digits_of number_from
digits_number zero n h = omega arith
digits_number (suc k) n h = go (ltb n 10) refl (digits_number k (n / 10))
  where
    go : (b : Bool) → ltb n 10 ≡ b → (n / 10 < 10 ^ k → number_of (digits_of k (n / 10)) ≡ n / 10)
        → number_of (cond b (digit n) (digits_of k (n / 10) ++ digit (n % 10))) ≡ n
    go true q r = from_digit 0 n ∙ omega arith
    go false q r =
        from_append 0 (digits_of k (n / 10)) (digit (n % 10))
        ∙ ap (λ (x : ℕ). number_from x (digit (n % 10))) (r (omega arith))
        ∙ from_digit (n / 10) (n % 10) ∙ omega arith

-- ---- as the grammar has them

DIGIT_of : (d : ℕ) → d < 10 → DIGIT (digit d)
DIGIT_of d h = within {b = 48 + d} (omega arith) (omega arith)

-- one digit more behind some
many_end : {s : List ℕ} (d : ℕ) → Many DIGIT s → DIGIT (digit d) → Many DIGIT (s ++ digit d)
many_end d none x = more x none
many_end d (more {s} {t} y m) x = subst (λ (z : List ℕ). Many DIGIT z) (sym (append_assoc s t (digit d))) (more y (many_end d m x))

whole_end : {s : List ℕ} (d : ℕ) → (digit1_9 · Many DIGIT) s → DIGIT (digit d) → (digit1_9 · Many DIGIT) (s ++ digit d)
whole_end d (join {s} {t} y m) x = subst (λ (z : List ℕ). (digit1_9 · Many DIGIT) z) (sym (append_assoc s t (digit d))) (join y (many_end d m x))

-- a number that is not 0 does not begin with 0
whole_digits : (k n : ℕ) → 1 ≤ n → n < 10 ^ k → (digit1_9 · Many DIGIT) (digits_of k n)
unfolding digits_of
whole_digits zero n l h = absurd (omega arith)
whole_digits (suc k) n l h = go (ltb n 10) refl (whole_digits k (n / 10))
  where
    go : (b : Bool) → ltb n 10 ≡ b → (1 ≤ n / 10 → n / 10 < 10 ^ k → (digit1_9 · Many DIGIT) (digits_of k (n / 10)))
        → (digit1_9 · Many DIGIT) (cond b (digit n) (digits_of k (n / 10) ++ digit (n % 10)))
    go true q r = let g = ltb-true n 10 q in join (within {b = 48 + n} (omega arith) (omega arith)) none
    go false q r =
        let g = ltb-false n 10 q in
        whole_end (n % 10) (r (omega arith) (omega arith)) (DIGIT_of (n % 10) (omega arith))

first_digit : {s : List ℕ} → (digit1_9 · Many DIGIT) s → byte_at s 0 ≡ 48 → ⊥
unfolding byte_at
first_digit (join (within l g) m) e = omega arith

nought_int : int (decimal 0)
unfolding decimal digits_of
nought_int = this bytes

module _ (n : ℕ) (h : n < 2 ^ 64) where
  pub decimal_number : number_of (decimal n) ≡ n
  unfolding decimal
  decimal_number = digits_number 20 n (omega arith)

  pub decimal_whole : 1 ≤ n → (digit1_9 · Many DIGIT) (decimal n)
  unfolding decimal
  decimal_whole l = whole_digits 20 n l (omega arith)

  pub decimal_first : (n ≡ 0 → ⊥) → byte_at (decimal n) 0 ≡ 48 → ⊥
  decimal_first g = first_digit (decimal_whole (omega arith))

  pub decimal_int : int (decimal n)
  decimal_int = go (dec_lt 0 n)
    where
      go : Dec (0 < n) → int (decimal n)
      go (yes l) = that (decimal_whole l)
      go (no g) = let e : n ≡ 0 = omega arith in subst (λ (x : ℕ). int (decimal x)) (sym e) nought_int

  pub decimal_json : number (decimal n)
  decimal_json = subst (λ (s : List ℕ). number s) (append-nil (decimal n)) (join absent (join decimal_int (join absent absent)))
