-- Laws of parts, stores and tests of strings of bytes.
-- Assumes nothing.
use mathlib.Core.Path.{◌≡◌, refl, sym, ap, ap₂, ◌∙◌}
use mathlib.Core.Bool.{Bool, true, false, ◌&&◌}
use mathlib.Core.List.{List, [], ◌∷◌, ◌++◌, append_assoc, append-nil}
use Prim.Native.Nat.{ℕ, zero, suc, ◌+◌, ◌-◌, ◌<◌, ◌≤◌}
use native.Mathlib.Nat.{add-zero}
use native.Mathlib.Numerals.{add-one}
use native.Mathlib.Omega.{arith}
use lib.Dec.{eqb}
use lib.ListN.{length, take, drop, get_or, set, length-append, length-take, length-drop, replicate, get_or-eq_default}
use lib.Seq.{sets-eq, drop-append-add, length-sets, take_at, drop_at, drop-drop, take-append_seam, take-length, take-add, drop-cons, set_out}
use borrow.Author.Tests.{eq-eqb, eqb-true}
use Rattle.ground.specs.Bytes.{byte_at, part, store, same, all_zero}

-- ---- tests

pub never : {A : Type 0} → false ≡ true → A
never e = let z : ◌≡◌ {A = ℕ} 0 1 = cc in absurd (omega arith)

pub and_true : (a b : Bool) → (a && b) ≡ true → (a ≡ true) × (b ≡ true)
and_true true b e = (refl, e)
and_true false b e = (e, cc)

pub and_intro : (a b : Bool) → a ≡ true → b ≡ true → (a && b) ≡ true
and_intro a b p q = rw (p, q)

-- ---- one byte

pub byte_past : (s : List ℕ) (at : ℕ) → length s ≤ at → byte_at s at ≡ 0
unfolding byte_at
byte_past s at h = get_or-eq_default s 0 h

pub byte_at_lem : (s : List ℕ) (at : ℕ) → byte_at s at ≡ get_or s at 0
unfolding byte_at
byte_at_lem s at = refl

-- ---- parts

pub length_part : (s : List ℕ) (at n : ℕ) → at + n ≤ length s → length (part s at n) ≡ n
unfolding part
length_part s at n h = simp (length-take, length-drop) (omega arith)

pub part_none : (s : List ℕ) (at : ℕ) → part s at 0 ≡ []
unfolding part
part_none s at = refl

pub part_all : (s : List ℕ) (n : ℕ) → length s ≡ n → part s 0 n ≡ s
unfolding part
part_all s n e = rw (← e) (take-length s)

pub part_add : (s : List ℕ) (at n k : ℕ) → part s at (n + k) ≡ part s at n ++ part s (at + n) k
unfolding part
part_add s at n k = take-add n k (drop at s) ∙ ap (λ (l : List ℕ). take n (drop at s) ++ take k l) (drop-drop n at s)

pub part_cons : (s : List ℕ) (i to : ℕ) → i < to → to ≤ length s → part s i (to - i) ≡ get_or s i 0 ∷ part s (i + 1) (to - (i + 1))
unfolding part
part_cons s i to l h =
    let e : to - i ≡ suc (to - (i + 1)) = omega arith in
    let k : i < length s = omega arith in
    rw (e, add-one, drop-cons s i 0 k)

pub part_skip : (p q : List ℕ) (k at n : ℕ) → length p ≡ k → part (p ++ q) (k + at) n ≡ part q at n
unfolding part
part_skip p q k at n e = rw (← e, drop-append-add)

pub part_front : (p q : List ℕ) (k : ℕ) → length p ≡ k → part (p ++ q) 0 k ≡ p
unfolding part
part_front p q k e = take_at p q k e

-- p, then q, in the middle
pub part_mid : (p q z : List ℕ) (at n : ℕ) → length p ≡ at → length q ≡ n → part (p ++ (q ++ z)) at n ≡ q
part_mid p q z at n e f = ap (λ (k : ℕ). part (p ++ (q ++ z)) k n) (sym (add-zero at)) ∙ part_skip p (q ++ z) at 0 n e ∙ part_front q z n f

pub part_end : (p q : List ℕ) (at n : ℕ) → length p ≡ at → length q ≡ n → part (p ++ q) at n ≡ q
part_end p q at n e f = ap (λ (x : List ℕ). part (p ++ x) at n) (sym (append-nil q)) ∙ part_mid p q [] at n e f

-- ---- stores

pub length_store : (s : List ℕ) (at : ℕ) (bs : List ℕ) → length (store s at bs) ≡ length s
unfolding store
length_store s at bs = length-sets s at bs

pub store_none : (s : List ℕ) (at : ℕ) → store s at [] ≡ s
unfolding store
store_none s at = refl

pub store_cons : (s : List ℕ) (at b : ℕ) (bs : List ℕ) → store s at (b ∷ bs) ≡ store (set s at b) (at + 1) bs
unfolding store
store_cons s at b bs = rw add-one

-- past the end nothing is stored
pub store_past : (s : List ℕ) (at : ℕ) (bs : List ℕ) → length s ≤ at → store s at bs ≡ s
unfolding store
store_past s at [] h = refl
store_past s at (b ∷ bs) h = rw (set_out s at b h) (store_past s (suc at) bs (omega arith))

-- two stores one behind the other are one
pub store_append : (s : List ℕ) (at : ℕ) (xs ys : List ℕ) → store (store s at xs) (at + length xs) ys ≡ store s at (xs ++ ys)
unfolding store
store_append s at [] ys = rw add-zero
store_append s at (x ∷ xs) ys = let e : at + suc (length xs) ≡ suc at + length xs = omega arith in rw e (store_append (set s at x) (suc at) xs ys)

-- the same, as two calls state it
pub store_then : (s s₁ s₂ : List ℕ) (i j : ℕ) (xs ys : List ℕ) → s₁ ≡ store s i xs → s₂ ≡ store s₁ j ys → j ≡ i + length xs → s₂ ≡ store s i (xs ++ ys)
store_then s s₁ s₂ i j xs ys p q e = q ∙ (rw (p, e) (store_append s i xs ys))

-- what stood there gives way
pub store_seam : (p q z bs : List ℕ) (k : ℕ) → length p ≡ k → length q ≡ length bs → store (p ++ (q ++ z)) k bs ≡ p ++ (bs ++ z)
unfolding store
store_seam p q z bs k f e =
    let l : length p + length bs ≤ length (p ++ (q ++ z)) = simp length-append (omega arith) in
    rw (← f, sets-eq bs (p ++ (q ++ z)) (length p) l, append_assoc)
    (ap₂ (λ (x y : List ℕ). x ++ (bs ++ y)) (take-append_seam p (q ++ z)) (drop-append-add p (q ++ z) (length bs) ∙ drop_at q z (length bs) e))

-- where there is room: what stood before, the bytes, what stood behind
pub store_fits : (s : List ℕ) (at : ℕ) (bs : List ℕ) → at + length bs ≤ length s → store s at bs ≡ take at s ++ (bs ++ drop (at + length bs) s)
unfolding store
store_fits s at bs h = sets-eq bs s at h ∙ append_assoc (take at s) bs (drop (at + length bs) s)

-- ---- the same bytes

pub same_refl : (a : List ℕ) → same a a ≡ true
unfolding same
same_refl [] = refl
same_refl (x ∷ a) = and_intro (eqb x x) (same a a) (eq-eqb x x refl) (same_refl a)

pub same_true : (a b : List ℕ) → same a b ≡ true → a ≡ b
unfolding same
same_true [] [] e = refl
same_true [] (y ∷ b) e = never e
same_true (x ∷ a) [] e = never e
same_true (x ∷ a) (y ∷ b) e =
    let p = and_true (eqb x y) (same a b) e in
    ap₂ (λ (u : ℕ) (v : List ℕ). u ∷ v) (eqb-true x y p.0) (same_true a b p.1)

-- what is not the same is not equal
pub same_false : (a b : List ℕ) → same a b ≡ false → a ≡ b → ⊥
same_false a b e q = let z : false ≡ true = sym e ∙ ap (same a) (sym q) ∙ same_refl a in never z

-- strings of different lengths are not the same
pub same_unlike : (a b : List ℕ) → (length a ≡ length b → ⊥) → same a b ≡ false
same_unlike a b h = go (same a b) refl
  where
    go : (x : Bool) → same a b ≡ x → x ≡ false
    go false e = refl
    go true e = absurd (h (ap length (same_true a b e)))

-- ---- zeros

pub zero_bytes : (s : List ℕ) → all_zero s ≡ true → s ≡ replicate (length s) 0
unfolding all_zero
zero_bytes [] e = refl
zero_bytes (x ∷ s) e =
    let p = and_true (eqb x 0) (all_zero s) e in
    rw (eqb-true x 0 p.0) (ap (λ (r : List ℕ). 0 ∷ r) (zero_bytes s p.1))

pub zeros_true : (n : ℕ) → all_zero (replicate n 0) ≡ true
unfolding all_zero
zeros_true zero = refl
zeros_true (suc n) = zeros_true n
