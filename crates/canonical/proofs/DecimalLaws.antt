-- A size in decimal, as the code goes: the digits of a tenth of it before the last.
-- Assumes nothing.
use mathlib.Core.Path.{◌≡◌, sym, ap, ◌∙◌}
use mathlib.Core.Bool.{Bool, true, false, cond}
use mathlib.Core.List.{List, ◌++◌}
use Prim.Native.Nat.{ℕ, zero, suc, ◌+◌, ◌-◌, ◌*◌, ◌/◌, ◌%◌, ◌^◌, ◌<◌, ◌≤◌}
use native.Mathlib.Nat.{pow-suc, div-lt_iff_lt-mul}
use native.Mathlib.Omega.{arith}
use lib.Dec.{ltb, lit<}
use lib.ListN.{length, length-append}
use borrow.Author.Tests.{lt-ltb, le-ltb}
use Rattle.ground.specs.Bytes.{store}
use Rattle.ground.proofs.Laws.{store_then}
use Rattle.canonical.specs.Decimal.{digit, digits_of, decimal}

-- one digit more than there are changes nothing
more_digits : (k n : ℕ) → n < 10 ^ suc k → digits_of (suc (suc k)) n ≡ digits_of (suc k) n
unfolding digits_of
more_digits zero n h = let l : n < 10 = h in rw (lt-ltb n 10 l)
more_digits (suc k) n h =
    let l : n < 10 ^ suc k * 10 = rw pow-suc at h in
    let e = more_digits k (n / 10) ((div-lt_iff_lt-mul (lit< tt)).1 l) in
    ap (λ (r : List ℕ). cond (ltb n 10) (digit n) (r ++ digit (n % 10))) e

pub decimal_small : (n : ℕ) → n < 10 → decimal n ≡ digit n
unfolding decimal digits_of
decimal_small n h = rw (lt-ltb n 10 h)

pub decimal_more : (n : ℕ) → 10 ≤ n → n < 2 ^ 64 → decimal n ≡ decimal (n / 10) ++ digit (n % 10)
unfolding decimal digits_of
decimal_more n h l =
    let k : n / 10 < 10 ^ 19 = omega arith in
    rw (le-ltb n 10 h) (ap (λ (r : List ℕ). r ++ digit (n % 10)) (sym (more_digits 18 (n / 10) k)))

pub decimal_longer : (n : ℕ) → 10 ≤ n → n < 2 ^ 64 → length (decimal n) ≡ length (decimal (n / 10)) + 1
decimal_longer n h l = ap length (decimal_more n h l) ∙ length-append (decimal (n / 10)) (digit (n % 10))

few_digits : (k n : ℕ) → length (digits_of k n) ≤ k
unfolding digits_of
few_digits zero n = omega arith
few_digits (suc k) n = go (ltb n 10) (few_digits k (n / 10))
  where
    go : (b : Bool) → length (digits_of k (n / 10)) ≤ k → length (cond b (digit n) (digits_of k (n / 10) ++ digit (n % 10))) ≤ suc k
    go true h = omega arith
    go false h = omega (arith, length-append (digits_of k (n / 10)) (digit (n % 10)))

pub decimal_short : (n : ℕ) → length (decimal n) ≤ 20
unfolding decimal
decimal_short n = few_digits 20 n

-- ---- the digits are counted, by the powers of ten

pub count_is : (k n : ℕ) → n < 2 ^ 64 → 10 ^ k ≤ n → n < 10 * 10 ^ k → k + 1 ≡ length (decimal n)
count_is zero n l h u = sym (ap length (decimal_small n u))
count_is (suc k) n l h u =
    let a : 10 ^ k * 10 ≤ n = rw pow-suc at h in
    let b : n < 10 * (10 ^ k * 10) = rw pow-suc at u in
    let p = pow_pos_ten k in
    let e = count_is k (n / 10) (omega arith) (omega arith) (omega arith) in
    omega (arith, decimal_longer n (omega arith) l)
  where
    pow_pos_ten : (k : ℕ) → 1 ≤ 10 ^ k
    pow_pos_ten zero = omega arith
    pow_pos_ten (suc k) = let h = pow_pos_ten k in rw pow-suc (omega arith)

-- ---- the digits are written: the last one behind those of a tenth

module _ (size n : ℕ) (e : n ≡ length (decimal size)) where
  pub one_digit : (m m' : List ℕ) → size < 10 → m' ≡ store m 0 (digit (size % 10)) → m' ≡ store m 0 (decimal size)
  one_digit m m' h p = let k : size % 10 ≡ size = omega arith in p ∙ ap (λ (d : ℕ). store m 0 (digit d)) k ∙ ap (store m 0) (sym (decimal_small size h))

  module _ (h : 10 ≤ size) (l : size < 2 ^ 64) where
    pub tenth_length : n - 1 ≡ length (decimal (size / 10))
    tenth_length = omega (arith, decimal_longer size h l)

    pub some_digits : 1 ≤ n
    some_digits = omega (arith, decimal_longer size h l)

    pub last_digit : (m m₁ m₂ : List ℕ) → m₁ ≡ store m 0 (decimal (size / 10)) → m₂ ≡ store m₁ (n - 1) (digit (size % 10)) → m₂ ≡ store m 0 (decimal size)
    last_digit m m₁ m₂ p q = store_then m m₁ m₂ 0 (n - 1) _ _ p q (omega (arith, tenth_length)) ∙ ap (store m 0) (sym (decimal_more size h l))
