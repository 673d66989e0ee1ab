-- What the writers' steps come to, over plain values.
-- Assumes nothing.
use mathlib.Core.Path.{◌≡◌, refl, sym, ap, ◌∙◌}
use mathlib.Core.Bool.{true, false}
use mathlib.Core.List.{List, [], ◌∷◌, ◌++◌}
use Prim.Native.Nat.{ℕ, suc, ◌+◌, ◌-◌, ◌*◌, ◌<◌, ◌≤◌, min}
use native.Mathlib.Decide.{dec_le}
use native.Mathlib.Nat.{add-zero}
use native.Mathlib.Omega.{arith}
use lib.Dec.{ltb}
use lib.ListN.{length, drop}
use lib.Seq.{drop-drop}
use borrow.Author.Tests.{le-leb, lt-leb, ltb-true, leb-true}
use Rattle.answer.specs.declared.counts.Counts.{Counts}
use Rattle.answer.specs.Limits.{counts_of}
use Rattle.ground.specs.Bytes.{store}
use Rattle.ground.proofs.Laws.{and_true, store_then}
use Rattle.ground.specs.Numbers.{low_first}
use Rattle.row.specs.Layout.{row_limit, string_limit, row_size, rows_start, strings_start}
use Rattle.row.specs.Rows.{Row, row_of, with_default, strings_of, encode_row, rows_of}
use Rattle.row.specs.Sets.{rows_from}
use Rattle.row.specs.Memory.{entry_at, text_at, default_at, row_at, most, counted, has_room, written, pushed, counted_all, pushed_all, declared}
use Rattle.row.specs.declared.Entry.{Entry}
use Rattle.row.proofs.RowLaws.{length_strings}

-- ---- room

module _ (c : Counts) (n : ℕ) where
  pub room_true : has_room c n ≡ true → (c.rows < row_limit) × (c.string_bytes + n ≤ string_limit)
  unfolding has_room
  room_true e =
      let p = and_true (ltb c.rows row_limit) _ e in
      (ltb-true _ _ p.0, leb-true _ _ p.1)

-- ---- one row

pub all_written : (m m₁ m₂ m₃ : List ℕ) (c : Counts) (r : Row) → m₁ ≡ store m (rows_start + row_size * c.rows) (encode_row c.string_bytes r)
    → m₂ ≡ store m₁ (strings_start + c.string_bytes) r.text → m₃ ≡ store m₂ (strings_start + c.string_bytes + length r.text) r.default → m₃ ≡ written m c r
unfolding written strings_of
all_written m m₁ m₂ m₃ c r p q e =
    store_then m₁ m₂ m₃ (strings_start + c.string_bytes) _ r.text r.default q e refl
    ∙ ap (λ (x : List ℕ). store x (strings_start + c.string_bytes) (r.text ++ r.default)) p

module _ (m : List ℕ) (c : Counts) (r : Row) where
  pub no_push : has_room c (length (strings_of r)) ≡ false → m ≡ pushed m c r
  unfolding pushed
  no_push e = rw e

  pub a_push : has_room c (length (strings_of r)) ≡ true → (m' : List ℕ) → m' ≡ written m c r → m' ≡ pushed m c r
  unfolding pushed
  a_push e m' h = rw e h

-- a row of two strings, whose lengths n counts together
module _ (c : Counts) (e : Entry) (t d : List ℕ) (n : ℕ) (en : n ≡ min (length t + length d) most) where
  r : Row
  r = with_default e t d

  long : n ≡ min (length (strings_of r)) most
  unfolding r
  long = rw (length_strings (with_default e t d)) en

  same_room : has_room c n ≡ has_room c (length (strings_of r))
  unfolding has_room
  same_room =
      elim (dec_le (c.string_bytes + n) string_limit) [
        | yes k ↦ rw (le-leb (c.string_bytes + n) string_limit k, le-leb (c.string_bytes + length (strings_of r)) string_limit (omega (arith, long)))
        | no k ↦ rw (lt-leb (c.string_bytes + n) string_limit (omega arith), lt-leb (c.string_bytes + length (strings_of r)) string_limit (omega (arith, long)))
      ]

  pub both_counted : (x : Counts) → x ≡ counted c n → x ≡ counted c (length (strings_of (with_default e t d)))
  unfolding counted r
  both_counted x h =
      let k : min (c.string_bytes + n) most ≡ min (c.string_bytes + length (strings_of (with_default e t d))) most = omega (arith, long) in
      h ∙ ap (λ (y : ℕ). counts_of c.declarations (min (c.rows + 1) most) y) k

  pub both_full : (m : List ℕ) → has_room c n ≡ false → m ≡ pushed m c (with_default e t d)
  unfolding r
  both_full m h = no_push m c (with_default e t d) (sym same_room ∙ h)

  pub both_room : has_room c n ≡ true → (c.rows < row_limit) × (c.string_bytes + (length t + length d) ≤ string_limit)
  unfolding r
  both_room h =
      let k = room_true c (length (strings_of r)) (sym same_room ∙ h) in
      (k.0, omega (arith, k.1, length_strings (with_default e t d)))

  pub both_pushed : (m m' : List ℕ) → has_room c n ≡ true → m' ≡ written m c (with_default e t d) → m' ≡ pushed m c (with_default e t d)
  unfolding r
  both_pushed m m' h w = a_push m c (with_default e t d) (sym same_room ∙ h) m' w

-- a row of one
pub one_counted : (c x : Counts) (e : Entry) (t : List ℕ) → x ≡ counted c (length (strings_of (row_of e t))) → x ≡ counted c (length t)
one_counted c x e t h = let k : length (strings_of (row_of e t)) ≡ length t = length_strings (row_of e t) ∙ add-zero (length t) in h ∙ ap (counted c) k

-- ---- one declaration

pub two_words : (m m₁ m₂ : List ℕ) (k n : ℕ) (a b : List ℕ) → a ≡ low_first 2 n → b ≡ low_first 2 (k + 1) → m₁ ≡ store m (2 + 2 * k) a → m₂ ≡ store m₁ 0 b → m₂ ≡ declared m k n
unfolding declared
two_words m m₁ m₂ k n a b p q e f = f ∙ rw (e, p, q)

-- ---- many rows of another memory: those that are left

rows_left_lem : (f : List ℕ) (e i : ℕ) → i < e → rows_from f (e - i) i ≡ row_at f i ∷ rows_from f (e - (i + 1)) (i + 1)
unfolding rows_from rows_of entry_at text_at default_at
rows_left_lem f e i l =
    let d : e - i ≡ suc (e - (i + 1)) = omega arith in
    let g : rows_start + row_size * i + row_size ≡ rows_start + row_size * (i + 1) = omega arith in
    rw d (ap (λ (x : List ℕ). row_at f i ∷ rows_of (drop strings_start f) (e - (i + 1)) x) (drop-drop row_size (rows_start + row_size * i) f ∙ ap (λ (k : ℕ). drop k f) g))

no_rows_left : (f : List ℕ) (e i : ℕ) → e ≤ i → rows_from f (e - i) i ≡ []
unfolding rows_from rows_of
no_rows_left f e i l = let d : e - i ≡ 0 = omega arith in rw d

pub push_start : (f : List ℕ) (s n : ℕ) → rows_from f (s + n - s) s ≡ rows_from f n s
push_start f s n = let d : s + n - s ≡ n = omega arith in rw d

module _ (f m x : List ℕ) (e i : ℕ) (c y : Counts) (p : counted_all c (rows_from f (e - i) i) ≡ y) (q : pushed_all m c (rows_from f (e - i) i) ≡ x) where
  pub push_turn : i < e → (n : Entry) (t u : List ℕ) → n ≡ entry_at f i → t ≡ text_at f i → u ≡ default_at f i
      → (c' : Counts) (m' : List ℕ) → c' ≡ counted c (length (strings_of (with_default n t u))) → m' ≡ pushed m c (with_default n t u)
      → (counted_all c' (rows_from f (e - (i + 1)) (i + 1)) ≡ y) × (pushed_all m' c' (rows_from f (e - (i + 1)) (i + 1)) ≡ x)
  unfolding counted_all pushed_all
  push_turn l n t u hn ht hu c' m' hc hm =
      let left = rows_left_lem f e i l in
      (rw (hc, hn, ht, hu) (rw left at p), rw (hc, hm, hn, ht, hu) (rw left at q))

  pub push_end : e ≤ i → (c ≡ y) × (m ≡ x)
  unfolding counted_all pushed_all
  push_end l = let none = no_rows_left f e i l in (rw none at p, rw none at q)
