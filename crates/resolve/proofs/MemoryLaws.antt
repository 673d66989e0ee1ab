-- Rows in memory, one after the other.
-- Assumes nothing.
use mathlib.Core.Path.{◌≡◌, refl, ap, ◌∙◌}
use mathlib.Core.List.{List, [], ◌∷◌, ◌++◌}
use Prim.Native.Nat.{ℕ, zero, suc, ◌+◌, ◌-◌, ◌*◌, ◌<◌, ◌≤◌}
use native.Mathlib.Nat.{add-zero, sub-zero}
use native.Mathlib.Omega.{arith}
use lib.ListN.{length, drop}
use lib.Seq.{drop-drop}
use Rattle.row.specs.Layout.{row_size, rows_start, strings_start}
use Rattle.row.specs.Rows.{Row, rows_of}
use Rattle.row.specs.Sets.{rows_from}
use Rattle.row.specs.Memory.{entry_at, text_at, default_at, row_at}

pub rows_none : (m : List ℕ) (i : ℕ) → rows_from m 0 i ≡ []
unfolding rows_from rows_of
rows_none m i = refl

pub rows_cons : (m : List ℕ) (n i : ℕ) → rows_from m (suc n) i ≡ row_at m i ∷ rows_from m n (i + 1)
unfolding rows_from rows_of entry_at text_at default_at
rows_cons m n i =
    let e : rows_start + row_size * i + row_size ≡ rows_start + row_size * (i + 1) = omega arith in
    ap (λ (l : List ℕ). row_at m i ∷ rows_of (drop strings_start m) n l) (drop-drop row_size (rows_start + row_size * i) m ∙ ap (λ (k : ℕ). drop k m) e)

-- the rows from i on and before `end`
pub rows_next : (m : List ℕ) (i end : ℕ) → i < end → rows_from m (end - i) i ≡ row_at m i ∷ rows_from m (end - (i + 1)) (i + 1)
rows_next m i end l = let e : end - i ≡ suc (end - (i + 1)) = omega arith in rw (e, rows_cons)

pub rows_end : (m : List ℕ) (i end : ℕ) → end ≤ i → rows_from m (end - i) i ≡ []
rows_end m i end l = let e : end - i ≡ 0 = omega arith in rw e (rows_none m i)

-- what is left after i of n, from s on
pub rows_left_lem : (m : List ℕ) (s n i : ℕ) → i < n → rows_from m (n - i) (s + i) ≡ row_at m (s + i) ∷ rows_from m (n - (i + 1)) (s + (i + 1))
rows_left_lem m s n i l =
    let e : n - i ≡ suc (n - (i + 1)) = omega arith in
    let f : s + i + 1 ≡ s + (i + 1) = omega arith in
    rw (e, rows_cons, f)

pub rows_done : (m : List ℕ) (s n i : ℕ) → n ≤ i → rows_from m (n - i) (s + i) ≡ []
rows_done m s n i l = let e : n - i ≡ 0 = omega arith in rw e (rows_none m (s + i))

pub rows_all : (m : List ℕ) (s n : ℕ) → rows_from m (n - 0) (s + 0) ≡ rows_from m n s
rows_all m s n = rw (sub-zero, add-zero)

pub rows_add : (m : List ℕ) (a b i : ℕ) → rows_from m (a + b) i ≡ rows_from m a i ++ rows_from m b (i + a)
rows_add m zero b i = let e : 0 + b ≡ b = omega arith in rw (e, add-zero, rows_none)
rows_add m (suc a) b i =
    let e : suc a + b ≡ suc (a + b) = omega arith in
    let f : i + 1 + a ≡ i + suc a = omega arith in
    rw (e, rows_cons m (a + b) i, rows_cons m a i) (ap (λ (x : List Row). row_at m i ∷ x) (rows_add m a b (i + 1) ∙ ap (λ (k : ℕ). rows_from m a (i + 1) ++ rows_from m b k) f))

pub rows_snoc : (m : List ℕ) (s i : ℕ) → rows_from m (i + 1) s ≡ rows_from m i s ++ (row_at m (s + i) ∷ [])
rows_snoc m s i = rows_add m i 1 s ∙ ap (λ (x : List Row). rows_from m i s ++ x) (rows_cons m 0 (s + i) ∙ ap (λ (x : List Row). row_at m (s + i) ∷ x) (rows_none m (s + i + 1)))

pub length_rows : (m : List ℕ) (n i : ℕ) → length (rows_from m n i) ≡ n
length_rows m zero i = ap length (rows_none m i)
length_rows m (suc n) i = ap length (rows_cons m n i) ∙ ap suc (length_rows m n (i + 1))
