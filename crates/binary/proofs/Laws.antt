-- Laws of numbers in binary: a number lies inside the input and has at least one byte; past the end it is cut off; what zig-zag says of even and of odd numbers.
-- Assumes nothing.
use mathlib.Core.Path.{◌≡◌, refl, ap}
use mathlib.Core.Bool.{Bool, true, false, cond}
use mathlib.Core.List.{List, [], ◌∷◌, ◌++◌}
use Prim.Native.Nat.{ℕ, zero, suc, ◌+◌, ◌-◌, ◌*◌, ◌%◌, ◌^◌, ◌<◌, ◌≤◌}
use native.Mathlib.Omega.{arith}
use lib.Dec.{ltb}
use lib.ListN.{length, drop, length-drop}
use lib.Seq.{drop-append-le}
use borrow.Author.Tests.{eq-eqb, ne_eqb}
use Rattle.binary.specs.Numbers.{Number, Groups, number, cut, too_many, below, groups, within, int_at, long_at, is_negative, absolute}
use Rattle.std.specs.Prelude.{Result, Ok, Err}
use Rattle.binary.specs.declared.number.NumberError.TheVariants.{Cut, Wrong}

-- ---- groups

-- nothing is left past the end
pub drop_past : (l : List ℕ) (n : ℕ) → length l ≤ n → drop n l ≡ []
drop_past [] zero h = refl
drop_past [] (suc n) h = refl
drop_past (x ∷ l) zero h = absurd (omega arith)
drop_past (x ∷ l) (suc n) h = drop_past l n (omega arith)

pub groups_past : (g : ℕ) (l : List ℕ) → 0 < g → l ≡ [] → groups g l ≡ cut
unfolding groups
groups_past zero l p e = absurd (omega arith)
groups_past (suc g) l p e = rw e

-- how many groups there are; none where there is no number
groups_in : Groups → ℕ
groups_in (number v n) = n
groups_in cut = 0
groups_in too_many = 0

-- each group is a byte
groups_bytes : (g : ℕ) (l : List ℕ) → groups_in (groups g l) ≤ length l
unfolding groups_in groups below
groups_bytes zero l = omega arith
groups_bytes (suc g) [] = omega arith
groups_bytes (suc g) (b ∷ l) = go (ltb b 128) (groups g l) (groups_bytes g l)
  where
    go : (x : Bool) (more : Groups) → groups_in more ≤ length l → groups_in (cond x (number b 1) (below b more)) ≤ length (b ∷ l)
    go true more h = omega arith
    go false (number v n) h = omega arith
    go false cut h = omega arith
    go false too_many h = omega arith

-- a number has one at least
has_group : Groups → Type 0
has_group (number v n) = 0 < n
has_group cut = Unit
has_group too_many = Unit

groups_some : (g : ℕ) (l : List ℕ) → has_group (groups g l)
unfolding has_group groups below
groups_some zero l = tt
groups_some (suc g) [] = tt
groups_some (suc g) (b ∷ l) = go (ltb b 128) (groups g l)
  where
    go : (x : Bool) (more : Groups) → has_group (cond x (number b 1) (below b more))
    go true more = omega arith
    go false (number v n) = omega arith
    go false cut = tt
    go false too_many = tt

pub same_end : {E : Type 0} {v to w p : ℕ} → ◌≡◌ {A = Result (ℕ × ℕ) E} (Ok (v, to)) (Ok (w, p)) → to ≡ p
same_end {E} {v} {to} {w} {p} e = let z : ◌≡◌ {A = ℕ × ℕ} (v, to) (w, p) = cc in ap (λ (x : ℕ × ℕ). x.1) z

-- a number that stands at a place
within_inside : (limit at n v to : ℕ) (g : Groups) → groups_in g ≤ n - at → has_group g → within limit at g ≡ Ok (v, to) → (at < to) × (to ≤ n)
unfolding groups_in has_group within
within_inside limit at n v to (number w k) l some e = go (ltb w limit) e
  where
    go : (x : Bool) → cond {A = Number} x (Ok (w, at + k)) (Err Wrong) ≡ Ok (v, to) → (at < to) × (to ≤ n)
    go true q = let z = same_end q in (omega arith, omega arith)
    go false q = let z : ◌≡◌ {A = ℕ} 0 1 = cc in absurd (omega arith)
within_inside limit at n v to cut l some e = let z : ◌≡◌ {A = ℕ} 0 1 = cc in absurd (omega arith)
within_inside limit at n v to too_many l some e = let z : ◌≡◌ {A = ℕ} 0 1 = cc in absurd (omega arith)

module _ (bytes : List ℕ) (at v to : ℕ) where
  number_at : (limit g : ℕ) → within limit at (groups g (drop at bytes)) ≡ Ok (v, to) → (at < to) × (to ≤ length bytes)
  number_at limit g e = within_inside limit at (length bytes) v to (groups g (drop at bytes)) (rw length-drop at (groups_bytes g (drop at bytes))) (groups_some g (drop at bytes)) e

  pub int_forward : int_at bytes at ≡ Ok (v, to) → at < to
  unfolding int_at
  int_forward e = (number_at (2 ^ 32) 5 e).0

  pub int_inside : int_at bytes at ≡ Ok (v, to) → to ≤ length bytes
  unfolding int_at
  int_inside e = (number_at (2 ^ 32) 5 e).1

  pub long_forward : long_at bytes at ≡ Ok (v, to) → at < to
  unfolding long_at
  long_forward e = (number_at (2 ^ 64) 10 e).0

  pub long_inside : long_at bytes at ≡ Ok (v, to) → to ≤ length bytes
  unfolding long_at
  long_inside e = (number_at (2 ^ 64) 10 e).1

-- past the end it is cut off
module _ (bytes : List ℕ) (at : ℕ) (l : length bytes ≤ at) where
  pub cut_past : (limit g : ℕ) → 0 < g → within limit at (groups g (drop at bytes)) ≡ Err Cut
  unfolding within
  cut_past limit g p = rw (groups_past g (drop at bytes) p (drop_past bytes at l))

  pub int_past : int_at bytes at ≡ Err Cut
  unfolding int_at
  int_past = cut_past (2 ^ 32) 5 (omega arith)

  pub long_past : long_at bytes at ≡ Err Cut
  unfolding long_at
  long_past = cut_past (2 ^ 64) 10 (omega arith)

-- ---- zig-zag

pub even_is_not_negative : (n : ℕ) → is_negative (2 * n) ≡ false
unfolding is_negative
even_is_not_negative n = ne_eqb (2 * n % 2) 1 (λ e. omega arith)

pub even_is_half : (n : ℕ) → absolute (2 * n) ≡ n
unfolding absolute
even_is_half n = omega arith

pub odd_is_negative : (n : ℕ) → is_negative (2 * n + 1) ≡ true
unfolding is_negative
odd_is_negative n = eq-eqb ((2 * n + 1) % 2) 1 (omega arith)

pub odd_is_half_and_one : (n : ℕ) → absolute (2 * n + 1) ≡ n + 1
unfolding absolute
odd_is_half_and_one n = omega arith

-- ---- more bytes behind a number do not change it

-- a number is the same number; of what is none nothing is said
data Longer : Groups → Groups → Type 0 where
  the_same : {v n : ℕ} → Longer (number v n) (number v n)
  was_cut : {g : Groups} → Longer cut g
  was_long : {g : Groups} → Longer too_many g

longer_below : (b : ℕ) {g h : Groups} → Longer g h → Longer (below b g) (below b h)
unfolding below
longer_below b the_same = the_same
longer_below b was_cut = was_cut
longer_below b was_long = was_long

longer_cond : {g h k : Groups} (t : Bool) → Longer g g → Longer h k → Longer (cond t g h) (cond t g k)
longer_cond true a b = a
longer_cond false a b = b

groups_longer : (g : ℕ) (l more : List ℕ) → Longer (groups g l) (groups g (l ++ more))
unfolding groups
groups_longer zero l more = was_long
groups_longer (suc g) [] more = was_cut
groups_longer (suc g) (b ∷ l) more = longer_cond (ltb b 128) the_same (longer_below b (groups_longer g l more))

within_longer : (limit at v to : ℕ) {g h : Groups} → Longer g h → within limit at g ≡ Ok (v, to) → within limit at h ≡ Ok (v, to)
unfolding within
within_longer limit at v to the_same e = e
within_longer limit at v to was_cut e = let z : ◌≡◌ {A = ℕ} 0 1 = cc in absurd (omega arith)
within_longer limit at v to was_long e = let z : ◌≡◌ {A = ℕ} 0 1 = cc in absurd (omega arith)

module _ (bytes more : List ℕ) (at v to : ℕ) where
  number_longer : (limit g : ℕ) → at ≤ length bytes → within limit at (groups g (drop at bytes)) ≡ Ok (v, to) → within limit at (groups g (drop at (bytes ++ more))) ≡ Ok (v, to)
  number_longer limit g l e = rw (drop-append-le at bytes more l) (within_longer limit at v to (groups_longer g (drop at bytes) more) e)

  pub int_longer : int_at bytes at ≡ Ok (v, to) → int_at (bytes ++ more) at ≡ Ok (v, to)
  unfolding int_at
  int_longer e = number_longer (2 ^ 32) 5 (let l = int_forward bytes at v to e in let k = int_inside bytes at v to e in omega arith) e

  pub long_longer : long_at bytes at ≡ Ok (v, to) → long_at (bytes ++ more) at ≡ Ok (v, to)
  unfolding long_at
  long_longer e = number_longer (2 ^ 64) 10 (let l = long_forward bytes at v to e in let k = long_inside bytes at v to e in omega arith) e
