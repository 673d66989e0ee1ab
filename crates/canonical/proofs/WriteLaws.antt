-- Texts written one behind the other, and into a part that was lent.
-- Assumes nothing.
use mathlib.Core.Path.{◌≡◌, refl, sym, ap, ◌∙◌}
use mathlib.Core.List.{List, [], ◌∷◌, ◌++◌, append_assoc, append-nil}
use Prim.Native.Nat.{ℕ, suc, ◌+◌, ◌-◌, ◌≤◌, min}
use native.Mathlib.Nat.{add-zero, zero-add}
use native.Mathlib.Omega.{arith}
use native.Mathlib.Decide.{dec_le}
use lib.ListN.{length, take, drop, set, length-append, length-take, length-drop, take-append-drop, drop_of_length-le}
use lib.Seq.{sets, take_all}
use borrow.Rule.Slice.PartMut.{mid_of, put_mid}
use Rattle.ground.specs.Bytes.{store}
use Rattle.ground.proofs.Laws.{length_store, store_none, store_past, store_append}
use Rattle.canonical.specs.Wrote.{Wrote}

pub wrote_none : (m : List ℕ) (at : ℕ) → Wrote m at m at []
wrote_none m at = record { end = omega arith; bytes = sym (store_none m at) }

pub wrote_then : {m m₁ m₂ : List ℕ} {i i₁ i₂ : ℕ} {s t : List ℕ} → Wrote m i m₁ i₁ s → Wrote m₁ i₁ m₂ i₂ t → Wrote m i m₂ i₂ (s ++ t)
wrote_then {m} {m₁} {m₂} {i} {i₁} {i₂} {s} {t} p q =
    record {
      end = omega (arith, length-append s t, p.end, q.end);
      bytes = q.bytes ∙ rw (p.bytes, p.end) (store_append m i s t);
    }

pub wrote_eq : {m m' : List ℕ} {at to : ℕ} {s t : List ℕ} → s ≡ t → Wrote m at m' to s → Wrote m at m' to t
wrote_eq {m} {m'} {at} {to} e w = rw (← e) w

pub wrote_length : {m m' : List ℕ} {at to : ℕ} {s : List ℕ} → Wrote m at m' to s → length m' ≡ length m
wrote_length {m} {m'} {at} {to} {s} w = ap length w.bytes ∙ length_store m at s

-- ---- a part that was lent

set_behind : (p q : List ℕ) (j b : ℕ) → set (p ++ q) (length p + j) b ≡ p ++ set q j b
set_behind [] q j b = rw zero-add
set_behind (x ∷ p) q j b = let e : suc (length p) + j ≡ suc (length p + j) = omega arith in rw e (ap (λ (l : List ℕ). x ∷ l) (set_behind p q j b))

sets_behind : (p q : List ℕ) (j : ℕ) (s : List ℕ) → sets (p ++ q) (length p + j) s ≡ p ++ sets q j s
sets_behind p q j [] = refl
sets_behind p q j (b ∷ s) = let e : suc (length p + j) ≡ length p + suc j = omega arith in rw (set_behind p q j b, e) (sets_behind p (set q j b) (suc j) s)

store_behind : (p q s : List ℕ) (k : ℕ) → length p ≡ k → store (p ++ q) k s ≡ p ++ store q 0 s
unfolding store
store_behind p q s k e = rw (← e) (ap (λ (i : ℕ). sets (p ++ q) i s) (sym (add-zero (length p))) ∙ sets_behind p q 0 s)

-- the part from a on comes back with s stored at its front: s is stored at a
lent : (xs ys s : List ℕ) (a : ℕ) → a ≤ length xs → ys ≡ store (mid_of a (length xs - a) xs) 0 s → put_mid a (length xs - a) xs ys ≡ store xs a s
lent xs ys s a h e =
    let k : length (drop a xs) ≤ length xs - a = simp length-drop (omega arith) in
    let f : take (length xs - a) (drop a xs) ≡ drop a xs = take_all (length xs - a) (drop a xs) k in
    let g : drop (length xs - a) (drop a xs) ≡ [] = drop_of_length-le (drop a xs) k in
    let n : length (take a xs) ≡ a = simp length-take (omega arith) in
    rw (g, append-nil, e, f) (sym (store_behind (take a xs) (drop a xs) s a n) ∙ ap (λ (l : List ℕ). store l a s) (take-append-drop a xs))

-- a place past the end is lent the empty part
pub wrote_lent : (xs ys : List ℕ) (at a n : ℕ) (s : List ℕ) → a ≡ min at (length xs) → Wrote (mid_of a (length xs - a) xs) 0 ys n s → Wrote xs at (put_mid a (length xs - a) xs ys) (at + n) s
wrote_lent xs ys at a n s e w =
    let f : put_mid a (length xs - a) xs ys ≡ store xs a s = lent xs ys s a (omega arith) w.bytes in
    record { end = omega (arith, w.end); bytes = f ∙ go (dec_le at (length xs)) }
  where
    go : Dec (at ≤ length xs) → store xs a s ≡ store xs at s
    go (yes h) = let k : a ≡ at = omega arith in rw k
    go (no h) = store_past xs a s (omega arith) ∙ sym (store_past xs at s (omega arith))

-- ---- a loop that writes: of `whole`, what is written so far, and `rest`

pub record Sofar (m m' : List ℕ) (to : ℕ) (whole rest : List ℕ) : Type 0 where
  pub done : List ℕ
  pub wrote : Wrote m 0 m' to done
  pub joins : whole ≡ done ++ rest

pub sofar_none : (m whole rest : List ℕ) → whole ≡ rest → Sofar m m 0 whole rest
sofar_none m whole rest e = record { done = []; wrote = wrote_none m 0; joins = e }

pub sofar_more : {m m₁ m₂ : List ℕ} {i j : ℕ} {whole rest s rest' : List ℕ} → Sofar m m₁ i whole rest → rest ≡ s ++ rest' → Wrote m₁ i m₂ j s → Sofar m m₂ j whole rest'
sofar_more {s = s} {rest' = rest'} p e q =
    record { done = p.done ++ s; wrote = wrote_then p.wrote q; joins = p.joins ∙ ap (λ (l : List ℕ). p.done ++ l) e ∙ sym (append_assoc p.done s rest') }

pub sofar_same : {m m' : List ℕ} {i : ℕ} {whole rest rest' : List ℕ} → Sofar m m' i whole rest → rest ≡ rest' → Sofar m m' i whole rest'
sofar_same {rest = rest} {rest' = rest'} p e = rw e at p

pub sofar_end : {m m' : List ℕ} {i : ℕ} {whole rest : List ℕ} → Sofar m m' i whole rest → rest ≡ [] → Wrote m 0 m' i whole
sofar_end {whole = whole} p e =
    let f : p.done ≡ whole = sym (p.joins ∙ ap (λ (l : List ℕ). p.done ++ l) e ∙ append-nil p.done) in
    wrote_eq f p.wrote

pub sofar_length : {m m' : List ℕ} {i : ℕ} {whole rest : List ℕ} → Sofar m m' i whole rest → length m' ≡ length m
sofar_length p = wrote_length p.wrote

-- what is still to come fits where the whole does
pub sofar_fits : {m m' : List ℕ} {i : ℕ} {whole rest : List ℕ} (n : ℕ) → Sofar m m' i whole rest → length whole ≤ n → i + length rest ≤ n
sofar_fits {whole = whole} {rest = rest} n p h = omega (arith, p.wrote.end, ap length p.joins, length-append p.done rest)
