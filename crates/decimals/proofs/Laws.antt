-- The sixteen limits are the largest precisions that fit: one test, computed over the whole table, and what it says at each size.
-- Assumes nothing.
use mathlib.Core.Path.{◌≡◌, refl, sym, subst, ◌∙◌}
use mathlib.Core.Bool.{Bool, true, ◌&&◌}
use mathlib.Core.List.{List, [], ◌∷◌}
use Prim.Native.Nat.{ℕ, zero, suc, ◌+◌, ◌*◌, ◌-◌, ◌^◌, ◌<◌, ◌≤◌}
use native.Mathlib.Nat.{add-suc, add-zero, suc-add, le_of_suc-le-suc, not-suc-le-zero, pow-le-pow_right, one-le-pow, le_trans, lt_of_lt_of_le}
use native.Mathlib.Omega.{arith}
use native.Mathlib.Decide.{dec_lt}
use native.Mathlib.Numerals.{sub-one}
use lib.Dec.{leb, ltb}
use lib.ListN.{length, get_or, get_or-eq_default}
use borrow.Author.Tests.{leb-true, ltb-true}
use Rattle.ground.proofs.Laws.{and_true}
use Rattle.decimals.specs.Limits.{largest_number, Largest, limits, limit_of}

-- ---- the test: the entries of a table are the largest that fit the sizes from n on

is_largest : ℕ → ℕ → Bool
is_largest n p = leb (10 ^ p) (largest_number n) && ltb (largest_number n) (10 ^ (p + 1))

are_largest : ℕ → List ℕ → Bool
are_largest n [] = true
are_largest n (p ∷ ps) = is_largest n p && are_largest (suc n) ps

-- the sixteen limits pass it: one computation over whole numbers
tested : are_largest 1 limits ≡ true
unfolding are_largest is_largest largest_number limits
tested = refl

-- ---- what it says at each entry

is_largest_lem : (n p : ℕ) → is_largest n p ≡ true → Largest n p
unfolding is_largest
is_largest_lem n p e =
    let z = and_true (leb (10 ^ p) (largest_number n)) (ltb (largest_number n) (10 ^ (p + 1))) e in
    record { fits = leb-true _ _ z.0; no_more = ltb-true _ _ z.1 }

at_entry : (n : ℕ) (ps : List ℕ) → are_largest n ps ≡ true → (k d : ℕ) → k < length ps → Largest (n + k) (get_or ps k d)
unfolding are_largest
at_entry n [] e k d h = absurd (not-suc-le-zero h)
at_entry n (p ∷ ps) e zero d h =
    subst (λ (i : ℕ). Largest i p) (sym (add-zero n)) (is_largest_lem n p (and_true (is_largest n p) (are_largest (suc n) ps) e).0)
at_entry n (p ∷ ps) e (suc k) d h =
    subst (λ (i : ℕ). Largest i (get_or ps k d)) (suc-add n k ∙ sym (add-suc n k))
    (at_entry (suc n) ps (and_true (is_largest n p) (are_largest (suc n) ps) e).1 k d (le_of_suc-le-suc h))

-- ---- the limits, by size

-- each of the sixteen is the largest that fits
pub limit_largest : (n : ℕ) → 1 ≤ n → n ≤ 16 → Largest n (limit_of n)
unfolding limit_of limits
limit_largest zero l h = absurd (not-suc-le-zero l)
limit_largest (suc k) l h = subst (λ (i : ℕ). Largest i (get_or limits k 38)) (omega arith) (at_entry 1 limits tested k 38 h)

-- above 16 it stays 38
pub limit_stays : (n : ℕ) → 16 < n → limit_of n ≡ 38
unfolding limit_of limits
limit_stays zero h = absurd (not-suc-le-zero h)
limit_stays (suc k) h = get_or-eq_default limits 38 (le_of_suc-le-suc h)

ten_up : (p q : ℕ) → p ≤ q → 10 ^ p ≤ 10 ^ q
ten_up p q h = pow-le-pow_right {n = 10} (omega arith) {i = p} {j = q} h

-- of the sizes from 1 to 16, a precision is above the limit exactly where 10 to it exceeds the largest number
pub above_limit : (n p : ℕ) → 1 ≤ n → n ≤ 16 → limit_of n < p → largest_number n < 10 ^ p
above_limit n p l h a = lt_of_lt_of_le (limit_largest n l h).no_more (ten_up (limit_of n + 1) p (omega arith))

pub within_limit : (n p : ℕ) → 1 ≤ n → n ≤ 16 → p ≤ limit_of n → 10 ^ p ≤ largest_number n
within_limit n p l h a = le_trans (ten_up p (limit_of n) a) (limit_largest n l h).fits

-- a size of 0 holds none
pub none_fits : (p : ℕ) → largest_number 0 < 10 ^ p
unfolding largest_number
none_fits p = one-le-pow p 10 (omega arith)

one_less : (a b : ℕ) → a ≤ b → a - 1 ≤ b - 1
one_less a b h = omega arith

-- more bytes hold no less
larger : (n : ℕ) → 16 ≤ n → largest_number 16 ≤ largest_number n
unfolding largest_number
larger n h = one_less (2 ^ 127) (2 ^ (8 * n - 1)) (pow-le-pow_right {n = 2} (omega arith) {i = 127} {j = 8 * n - 1} (omega arith))

-- whatever the size, a precision within the limit fits
pub limit_fits : (n p : ℕ) → 1 ≤ p → p ≤ limit_of n → 10 ^ p ≤ largest_number n
unfolding limit_of limits
limit_fits zero p l h = absurd (omega (arith, l, h))
limit_fits (suc k) p l h = go (dec_lt 16 (suc k))
  where
    go : Dec (16 < suc k) → 10 ^ p ≤ largest_number (suc k)
    go (yes b) =
        let i : p ≤ 38 = subst (λ (x : ℕ). p ≤ x) (limit_stays (suc k) b) h in
        le_trans (within_limit 16 p (omega arith) (omega arith) i) (larger (suc k) (omega arith))
    go (no b) = within_limit (suc k) p (omega arith) (omega arith) h

-- ---- the code's ways out

-- an entry that is there, whatever stands for one that is not
entry_there : (ps : List ℕ) (k c d : ℕ) → k < length ps → get_or ps k c ≡ get_or ps k d
entry_there [] k c d h = absurd (not-suc-le-zero h)
entry_there (p ∷ ps) zero c d h = refl
entry_there (p ∷ ps) (suc k) c d h = entry_there ps k c d (le_of_suc-le-suc h)

pub limit_none : (n : ℕ) → n ≡ 0 → 0 ≡ limit_of n
unfolding limit_of
limit_none n e = rw e refl

pub limit_read : (n : ℕ) {r : ℕ} → (n ≡ 0 → ⊥) → n ≤ 16 → r ≡ get_or limits (n - 1) 0 → r ≡ limit_of n
unfolding limit_of limits
limit_read zero n h e = absurd (n refl)
limit_read (suc k) n h e = e ∙ rw sub-one (entry_there limits k 0 38 h)
