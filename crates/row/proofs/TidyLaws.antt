-- Bytes pass the tests exactly where they are the encoding of the set that they hold.
-- Assumes nothing.
use mathlib.Core.Path.{◌≡◌, refl, sym, ap, ap₂, ◌∙◌}
use mathlib.Core.Bool.{Bool, true, false, cond}
use mathlib.Core.List.{List, [], ◌∷◌, ◌++◌, append_assoc}
use Prim.Native.Nat.{ℕ, zero, suc, ◌+◌, ◌-◌, ◌*◌, ◌/◌, ◌%◌, ◌^◌, ◌<◌, ◌≤◌}
use native.Mathlib.Nat.{add-zero, zero-add, sub-zero, pow-suc, one-le-pow}
use native.Mathlib.Omega.{arith}
use lib.Dec.{eqb, leb, lit≤}
use lib.ListN.{length, take, drop, get_or, length-append, length-take, length-drop, take-append-drop}
use lib.Seq.{drop-cons, drop_at, drop-drop, take-add, take_all}
use borrow.Author.Tests.{eqb-true, leb-true, eq-eqb, le-leb, lt-ltb}
use Rattle.ground.specs.Bytes.{part, same, all_zero}
use Rattle.ground.proofs.Laws.{and_true, and_intro, same_refl, part_all, part_add, length_part, zero_bytes, zeros_true}
use Rattle.row.specs.Kinds.{kind_number, kind_of}
use Rattle.ground.specs.Numbers.{low_first}
use Rattle.row.specs.Numbers.{le, number}
use Rattle.row.specs.Layout.{declaration_limit, row_limit, string_limit, header_size, row_size, rows_start, rows_size, strings_start, layout_length}
use Rattle.row.specs.Rows.{Row, with_default, strings_of, fits, all_fit, encode_front, encode_row, encode_rows, texts, entry_of, text_of, text_start, text_length, default_of, default_length, strings_length, rows_of}
use Rattle.row.specs.Sets.{flat, sizes, sum, words, zeros, filled, pack, encode, words_of, count_in, sizes_in, rows_from, split, decode, is_within, is_encoding}
use Rattle.row.specs.Memory.{rows_before}
use Rattle.row.specs.Tidy.{tidy_row, tidy_end, rows_end, spare_zero, is_tidy}
use Rattle.row.proofs.NumberLaws.{le_one, number_one}
use Rattle.row.proofs.Laws.{true_within, encoding_true}
use Rattle.row.proofs.RowLaws.{kind_back, fits_true, length_row, start_back, long_back, length_rows}
use Rattle.row.proofs.SetLaws.{length_words, length_sizes, sum_sizes, count_pack, sizes_pack, length_pack, rows_start_lem, spare_sizes, spare_rows, spare_texts}

-- ---- bytes and their numbers

-- each element is a byte
unfoldable pub AllBytes : List ℕ → Type 0
AllBytes [] = Unit {0}
AllBytes (x ∷ xs) = (x < 256) × AllBytes xs

pub all_bytes : (m : List ℕ) → ((i : ℕ) → get_or m i 0 < 256) → AllBytes m
unfolding AllBytes
all_bytes [] h = tt
all_bytes (x ∷ m) h = (h 0, all_bytes m (λ i. h (suc i)))

all_take : (n : ℕ) (m : List ℕ) → AllBytes m → AllBytes (take n m)
unfolding AllBytes
all_take zero m h = tt
all_take (suc n) [] h = tt
all_take (suc n) (x ∷ m) h = (h.0, all_take n m h.1)

all_drop : (n : ℕ) (m : List ℕ) → AllBytes m → AllBytes (drop n m)
unfolding AllBytes
all_drop zero m h = h
all_drop (suc n) [] h = tt
all_drop (suc n) (x ∷ m) h = all_drop n m h.1

bytes_le : (bs : List ℕ) → AllBytes bs → low_first (length bs) (le bs) ≡ bs
unfolding AllBytes low_first le
bytes_le [] h = refl
bytes_le (b ∷ bs) h =
    let l : b < 256 = h.0 in
    let e : (b + 256 * le bs) % 256 ≡ b = omega arith in
    let f : (b + 256 * le bs) / 256 ≡ le bs = omega arith in
    rw (e, f) (ap (λ (r : List ℕ). b ∷ r) (bytes_le bs h.1))

module _ (m : List ℕ) (h : AllBytes m) where
  number_bytes : (at n : ℕ) → at + n ≤ length m → low_first n (number m at n) ≡ part m at n
  unfolding part
  number_bytes at n l =
      let e = bytes_le (part m at n) (all_take n (drop at m) (all_drop at m h)) in
      rw (length_part m at n l) at e

  one_byte : (at : ℕ) (x : List ℕ) → at < length m → number m at 1 ∷ x ≡ part m at 1 ++ x
  unfolding part
  one_byte at x l = rw (number_one m at, drop-cons m at 0 l)

part_take : (l : List ℕ) (n : ℕ) → part l 0 n ≡ take n l
unfolding part
part_take l n = refl

-- a number is as small as its bytes allow
le_small : (n : ℕ) (l : List ℕ) → AllBytes l → le (take n l) < 256 ^ n
unfolding AllBytes le
le_small zero l h = lit≤ tt
le_small (suc n) [] h = one-le-pow (suc n) 256 (lit≤ tt)
le_small (suc n) (b ∷ l) h =
    let ih = le_small n l h.1 in
    let k : b < 256 = h.0 in
    rw pow-suc (omega arith)

number_small : (m : List ℕ) (at n : ℕ) → AllBytes m → number m at n < 256 ^ n
unfolding part
number_small m at n h = le_small n (drop at m) (all_drop at m h)

-- ---- one row

module _ (l st : List ℕ) (o : ℕ) (h : AllBytes l) (long : row_size ≤ length l) where
  row_canon : kind_number (kind_of (number l 0 1)) ≡ number l 0 1 → text_start l ≡ o → length (text_of st l) ≡ text_length l → length (default_of st l) ≡ default_length l
      → encode_row o (with_default (entry_of l) (text_of st l) (default_of st l)) ≡ take row_size l
  unfolding encode_row encode_front entry_of
  row_canon k s n u =
      let f : (at w : ℕ) → at + w ≤ row_size → low_first w (number l at w) ≡ part l at w = λ at w d. number_bytes l h at w (omega arith) in
      let o' : low_first 2 o ≡ part l 8 2 = ap (low_first 2) (sym s) ∙ f 8 2 (lit≤ tt) in
      let n' : low_first 1 (length (text_of st l)) ≡ part l 6 1 = ap (low_first 1) n ∙ f 6 1 (lit≤ tt) in
      let u' : low_first 1 (length (default_of st l)) ≡ part l 7 1 = ap (low_first 1) u ∙ f 7 1 (lit≤ tt) in
      rw (k, o', n', u', f 2 2 (lit≤ tt), f 4 2 (lit≤ tt), f 10 8 (lit≤ tt), f 18 8 (lit≤ tt), f 26 8 (lit≤ tt))
      (rw (← part_add l 7 1 2, ← part_add l 6 1 3, ← part_add l 4 2 4, ← part_add l 2 2 6, ← part_add l 18 8 8, ← part_add l 10 8 16)
      (ap (λ (x : List ℕ). number l 0 1 ∷ x ++ part l 10 24) (one_byte l h 1 (part l 2 8) (omega arith))
      ∙ ap (λ (x : List ℕ). x ++ part l 10 24) (one_byte l h 0 (part l 1 1 ++ part l 2 8) (omega arith))
      ∙ rw (← part_add l 1 1 8, ← part_add l 0 1 9, ← part_add l 0 10 24) (part_take l row_size)))

-- ---- many rows

text_is : (st l : List ℕ) (o : ℕ) → text_start l ≡ o → text_of st l ≡ take (text_length l) (drop o st)
unfolding text_of part
text_is st l o e = ap (λ (k : ℕ). take (text_length l) (drop k st)) e

text_long : (st l : List ℕ) (o : ℕ) → length st ≡ string_limit → text_start l ≡ o → o + strings_length l ≤ string_limit → length (text_of st l) ≡ text_length l
text_long st l o s e h = ap length (text_is st l o e) ∙ length-take (text_length l) (drop o st) ∙ omega (arith, length-drop o st)

default_is : (st l : List ℕ) (o : ℕ) → text_start l ≡ o → default_of st l ≡ take (default_length l) (drop (o + text_length l) st)
unfolding default_of part
default_is st l o e = ap (λ (k : ℕ). take (default_length l) (drop (k + text_length l) st)) e

default_long : (st l : List ℕ) (o : ℕ) → length st ≡ string_limit → text_start l ≡ o → o + strings_length l ≤ string_limit → length (default_of st l) ≡ default_length l
default_long st l o s e h = ap length (default_is st l o e) ∙ length-take (default_length l) (drop (o + text_length l) st) ∙ omega (arith, length-drop (o + text_length l) st)

-- both, one behind the other
strings_are : (st l : List ℕ) (o : ℕ) → text_start l ≡ o → text_of st l ++ default_of st l ≡ take (strings_length l) (drop o st)
strings_are st l o e =
    ap₂ ◌++◌ (text_is st l o e) (default_is st l o e ∙ ap (take (default_length l)) (sym (drop-drop (text_length l) o st)))
    ∙ sym (take-add (text_length l) (default_length l) (drop o st))

-- what a row that passes the test is
record Tidy (k o : ℕ) (l : List ℕ) : Type 0 where
  kind : kind_number (kind_of (number l 0 1)) ≡ number l 0 1
  start : text_start l ≡ o
  fit : o + strings_length l ≤ string_limit
  rest : tidy_end (suc k) o l ≡ tidy_end k (o + strings_length l) (drop row_size l)

past : (t : Bool) (e f : ℕ) → e ≡ cond t f (string_limit + 1) → e ≤ string_limit → t ≡ true
past true e f p h = refl
past false e f p h = absurd (omega arith)

tidy_step : (k o : ℕ) (l : List ℕ) → tidy_end (suc k) o l ≤ string_limit → Tidy k o l
unfolding tidy_end tidy_row
tidy_step k o l h =
    let t : tidy_row o l ≡ true = past (tidy_row o l) (tidy_end (suc k) o l) (tidy_end k (o + strings_length l) (drop row_size l)) refl h in
    let a = and_true _ (leb (o + strings_length l) string_limit) t in
    let b = and_true _ (eqb (text_start l) o) a.0 in
    record { kind = eqb-true _ _ b.0; start = eqb-true _ _ b.1; fit = leb-true _ _ a.1; rest = rw t }

-- rows that pass are the encoding of their rows, and their strings lie one behind the other
record Canon (st : List ℕ) (k o : ℕ) (l : List ℕ) : Type 0 where
  rows : take (row_size * k) l ≡ encode_rows o (rows_of st k l)
  strings : take (tidy_end k o l - o) (drop o st) ≡ texts (rows_of st k l)
  after : o ≤ tidy_end k o l

rows_canon : (st : List ℕ) (k o : ℕ) (l : List ℕ) → length st ≡ string_limit → AllBytes l → row_size * k ≤ length l → tidy_end k o l ≤ string_limit → Canon st k o l
unfolding rows_of encode_rows texts strings_of tidy_end
rows_canon st zero o l s h n e =
    let z : o - o ≡ 0 = omega arith in
    record { rows = refl; strings = rw z; after = omega arith }
rows_canon st (suc k) o l s h n e =
    let t = tidy_step k o l e in
    let w : ℕ = strings_length l in
    let r : Row = with_default (entry_of l) (text_of st l) (default_of st l) in
    let l' : List ℕ = drop row_size l in
    let text = text_long st l o s t.start t.fit in
    let default = default_long st l o s t.start t.fit in
    let long : length (text_of st l ++ default_of st l) ≡ w = length-append (text_of st l) (default_of st l) ∙ ap₂ ◌+◌ text default in
    let ih = rows_canon st k (o + w) l' s (all_drop row_size l h) (omega (arith, length-drop row_size l)) (rw t.rest at e) in
    let one : encode_row o r ≡ take row_size l = row_canon l st o h (omega arith) t.kind t.start text default in
    let m : row_size * suc k ≡ row_size + row_size * k = omega arith in
    let d : tidy_end k (o + w) l' - o ≡ w + (tidy_end k (o + w) l' - (o + w)) = omega (arith, ih.after) in
    record {
      rows = rw (m, long) (take-add row_size (row_size * k) l ∙ ap₂ ◌++◌ (sym one) ih.rows);
      strings = ap (λ (x : ℕ). take (x - o) (drop o st)) t.rest ∙ rw d (take-add w (tidy_end k (o + w) l' - (o + w)) (drop o st) ∙ ap₂ ◌++◌ (sym (strings_are st l o t.start)) (ap (take (tidy_end k (o + w) l' - (o + w))) (drop-drop w o st) ∙ ih.strings));
      after = rw t.rest (omega (arith, ih.after));
    }

-- the numbers of rows fit
part_short : (s : List ℕ) (at n : ℕ) → length (part s at n) ≤ n
unfolding part
part_short s at n = omega (arith, length-take n (drop at s))

row_fits : (l st : List ℕ) → AllBytes l → fits (with_default (entry_of l) (text_of st l) (default_of st l)) ≡ true
unfolding fits entry_of text_of default_of
row_fits l st h =
    let f : (at n : ℕ) → number l at n < 256 ^ n = λ at n. number_small l at n h in
    let t : length (part st (text_start l) (text_length l)) < 2 ^ 8 = omega (arith, part_short st (text_start l) (text_length l), f 6 1) in
    let d : length (part st (text_start l + text_length l) (default_length l)) < 2 ^ 8 = omega (arith, part_short st (text_start l + text_length l) (default_length l), f 7 1) in
    rw (
      lt-ltb (number l 2 2) (2 ^ 16) (f 2 2),
      lt-ltb (number l 4 2) (2 ^ 16) (f 4 2),
      lt-ltb (number l 10 8) (2 ^ 64) (f 10 8),
      lt-ltb (number l 1 1) (2 ^ 8) (f 1 1),
      lt-ltb (number l 18 8) (2 ^ 64) (f 18 8),
      lt-ltb (number l 26 8) (2 ^ 64) (f 26 8),
      lt-ltb (length (part st (text_start l) (text_length l))) (2 ^ 8) t,
      lt-ltb (length (part st (text_start l + text_length l) (default_length l))) (2 ^ 8) d,
    )

rows_fit : (st : List ℕ) (k : ℕ) (l : List ℕ) → AllBytes l → all_fit (rows_of st k l) ≡ true
unfolding all_fit rows_of
rows_fit st zero l h = refl
rows_fit st (suc k) l h = and_intro (fits (with_default (entry_of l) (text_of st l) (default_of st l))) (all_fit (rows_of st k (drop row_size l))) (row_fits l st h) (rows_fit st k (drop row_size l) (all_drop row_size l h))

found_fit : (m : List ℕ) (t : ℕ) → AllBytes m → all_fit (rows_from m t 0) ≡ true
unfolding rows_from
found_fit m t h = rows_fit (drop strings_start m) t _ (all_drop rows_start m h)

-- ---- the areas

-- an area that has the k bytes bs and then zeros
area_canon : (m bs : List ℕ) (at n k p q : ℕ) → length bs ≡ k → p ≡ at + k → q ≡ n - k → at + n ≤ length m → k ≤ n → part m at k ≡ bs → all_zero (part m p q) ≡ true → part m at n ≡ filled n bs
unfolding filled
area_canon m bs at n k p q b pe qe l h e z =
    let f : k + q ≡ n = omega arith in
    let g : n - length bs ≡ q = omega arith in
    ap (part m at) (sym f)
    ∙ part_add m at k q
    ∙ ap₂ ◌++◌ e (ap (λ (i : ℕ). part m i q) (sym pe) ∙ zero_bytes (part m p q) z ∙ ap zeros (length_part m p q (omega arith) ∙ sym g))

words_canon : (k : ℕ) (l : List ℕ) → AllBytes l → 2 * k ≤ length l → take (2 * k) l ≡ words (words_of k l)
unfolding words words_of
words_canon zero l h n = refl
words_canon (suc k) l h n =
    let e : 2 * suc k ≡ 2 + 2 * k = omega arith in
    rw e
    (take-add 2 (2 * k) l
    ∙ ap₂ ◌++◌ (sym (part_take l 2) ∙ sym (number_bytes l h 0 2 (omega arith))) (words_canon k (drop 2 l) (all_drop 2 l h) (omega (arith, length-drop 2 l))))

all_words : (m : List ℕ) (n : ℕ) → n ≡ count_in m → words (words_of (suc n) m) ≡ words (n ∷ words_of n (drop 2 m))
unfolding words_of count_in
all_words m n e = ap (λ (k : ℕ). words (k ∷ words_of n (drop 2 m))) (sym e)

-- ---- rows dealt out

length_words_of : (k : ℕ) (l : List ℕ) → length (words_of k l) ≡ k
unfolding words_of
length_words_of zero l = refl
length_words_of (suc k) l = ap suc (length_words_of k (drop 2 l))

length_rows_of : (st : List ℕ) (k : ℕ) (l : List ℕ) → length (rows_of st k l) ≡ k
unfolding rows_of
length_rows_of st zero l = refl
length_rows_of st (suc k) l = ap suc (length_rows_of st k (drop row_size l))

length_split : (ns : List ℕ) (rs : List Row) → length (split ns rs) ≡ length ns
unfolding split
length_split [] rs = refl
length_split (n ∷ ns) rs = ap suc (length_split ns (drop n rs))

flat_split : (ns : List ℕ) (rs : List Row) → sum ns ≡ length rs → flat (split ns rs) ≡ rs
unfolding split flat sum
flat_split [] [] e = refl
flat_split [] (r ∷ rs) e = absurd (omega arith)
flat_split (n ∷ ns) rs e = ap (λ (x : List Row). take n rs ++ x) (flat_split ns (drop n rs) (omega (arith, length-drop n rs))) ∙ take-append-drop n rs

sizes_split : (ns : List ℕ) (rs : List Row) → sum ns ≡ length rs → sizes (split ns rs) ≡ ns
unfolding split sizes sum
sizes_split [] rs e = refl
sizes_split (n ∷ ns) rs e = ap₂ ◌∷◌ (length-take n rs ∙ omega arith) (sizes_split ns (drop n rs) (omega (arith, length-drop n rs)))

module _ (m : List ℕ) where
  counts : List ℕ
  counts = sizes_in m (count_in m)

  rows : List Row
  rows = rows_from m (sum counts) 0

  dealt : sum counts ≡ length rows
  unfolding rows rows_from
  dealt = sym (length_rows_of (drop strings_start m) (sum counts) _)

  pub flat_decode : flat (decode m) ≡ rows_from m (rows_before m (count_in m)) 0
  unfolding decode rows_before counts rows
  flat_decode = flat_split counts rows dealt

  pub sizes_decode : sizes (decode m) ≡ sizes_in m (count_in m)
  unfolding decode counts rows
  sizes_decode = sizes_split counts rows dealt

  pub length_decode : length (decode m) ≡ count_in m
  unfolding decode counts rows sizes_in
  length_decode = length_split counts rows ∙ length_words_of (count_in m) (drop 2 m)

rows_long : (m : List ℕ) (t : ℕ) → length (rows_from m t 0) ≡ t
unfolding rows_from
rows_long m t = length_rows_of (drop strings_start m) t _

-- ---- bytes that pass the tests

record Passed (m : List ℕ) (n t e : ℕ) : Type 0 where
  long : length m ≡ layout_length
  few : n ≤ declaration_limit
  fit : t ≤ row_limit
  room : e ≤ string_limit
  zeros₁ : all_zero (part m (2 + 2 * n) (header_size - (2 + 2 * n))) ≡ true
  zeros₂ : all_zero (part m (rows_start + row_size * t) (strings_start - (rows_start + row_size * t))) ≡ true
  zeros₃ : all_zero (part m (strings_start + e) (layout_length - (strings_start + e))) ≡ true

passed : (m : List ℕ) → is_tidy m ≡ true → Passed m (count_in m) (rows_before m (count_in m)) (rows_end m (rows_before m (count_in m)))
unfolding is_tidy spare_zero
passed m h =
    let n = count_in m in
    let t = rows_before m n in
    let e = rows_end m t in
    let a = and_true (eqb (length m) layout_length) _ h in
    let b = and_true (leb n declaration_limit) _ a.1 in
    let c = and_true (leb t row_limit) _ b.1 in
    let d = and_true (leb e string_limit) _ c.1 in
    let f = and_true _ (all_zero (part m (strings_start + e) (layout_length - (strings_start + e)))) d.1 in
    let g = and_true (all_zero (part m (2 + 2 * n) (header_size - (2 + 2 * n)))) _ f.0 in
    record { long = eqb-true _ _ a.0; few = leb-true _ _ b.0; fit = leb-true _ _ c.0; room = leb-true _ _ d.0; zeros₁ = g.0; zeros₂ = g.1; zeros₃ = f.1 }

module _ (m : List ℕ) (n t e : ℕ) (h : AllBytes m) (ne : n ≡ count_in m) (te : t ≡ rows_before m n) (ee : e ≡ rows_end m t) (p : Passed m n t e) where
  strings : List ℕ
  strings = drop strings_start m

  found : List Row
  found = rows_from m t 0

  header_canon : part m 0 header_size ≡ filled header_size (words (n ∷ sizes_in m n))
  unfolding count_in sizes_in words
  header_canon =
      let c : take (2 * suc n) m ≡ words (words_of (suc n) m) = words_canon (suc n) m h (omega (arith, p.long, p.few)) in
      let k : 2 * suc n ≡ 2 + 2 * n = omega arith in
      let w : words (words_of (suc n) m) ≡ words (n ∷ words_of n (drop 2 m)) = all_words m n ne in
      area_canon m (words (n ∷ words_of n (drop 2 m))) 0 header_size (2 + 2 * n) (2 + 2 * n) (header_size - (2 + 2 * n))
      (length_words (n ∷ words_of n (drop 2 m)) ∙ omega (arith, length_words_of n (drop 2 m)))
      (omega arith)
      refl
      (omega (arith, p.long))
      (omega (arith, p.few))
      (part_take m (2 + 2 * n) ∙ ap (λ (i : ℕ). take i m) (sym k) ∙ c ∙ w)
      p.zeros₁

  canon : Canon strings t 0 (drop rows_start m)
  unfolding strings rows_end
  canon =
      rows_canon (drop strings_start m) t 0 (drop rows_start m) (length-drop strings_start m ∙ omega (arith, p.long)) (all_drop rows_start m h) (omega (arith, length-drop rows_start m, p.long, p.fit)) (rw (← ee) p.room)

  rows_canon' : part m rows_start rows_size ≡ filled rows_size (encode_rows 0 found)
  unfolding found rows_from strings part
  rows_canon' =
      area_canon m (encode_rows 0 found) rows_start rows_size (row_size * t) (rows_start + row_size * t) (strings_start - (rows_start + row_size * t))
      (length_rows 0 found ∙ ap (λ (k : ℕ). row_size * k) (length_rows_of strings t (drop rows_start m)))
      refl
      (omega arith)
      (omega (arith, p.long))
      (omega (arith, p.fit))
      canon.rows
      p.zeros₂

  texts_are : take e strings ≡ texts found
  unfolding found rows_from strings rows_end
  texts_are = ap (λ (k : ℕ). take k (drop strings_start m)) (ee ∙ sym (sub-zero (tidy_end t 0 (drop rows_start m)))) ∙ canon.strings

  texts_long : length (texts found) ≡ e
  unfolding strings
  texts_long = ap length (sym texts_are) ∙ length-take e strings ∙ omega (arith, length-drop strings_start m, p.long, p.room)

  texts_canon : part m strings_start string_limit ≡ filled string_limit (texts found)
  unfolding strings part
  texts_canon =
      area_canon m (texts found) strings_start string_limit e (strings_start + e) (layout_length - (strings_start + e)) texts_long refl (omega arith) (omega (arith, p.long)) p.room texts_are p.zeros₃

  packed : m ≡ pack (sizes_in m n) found
  unfolding pack sizes_in
  packed =
      let k : length (words_of n (drop 2 m)) ≡ n = length_words_of n (drop 2 m) in
      sym (part_all m layout_length p.long)
      ∙ part_add m 0 header_size (rows_size + string_limit)
      ∙ ap₂ ◌++◌ (header_canon ∙ ap (λ (i : ℕ). filled header_size (words (i ∷ words_of n (drop 2 m)))) (sym k)) (part_add m rows_start rows_size string_limit ∙ ap₂ ◌++◌ rows_canon' texts_canon)

-- BYTES THAT PASS ARE AN ENCODING
tidy_encoding : (m : List ℕ) → AllBytes m → is_tidy m ≡ true → is_encoding m ≡ true
unfolding is_encoding encode found
tidy_encoding m h w =
    let n = count_in m in
    let t = rows_before m n in
    let p = passed m w in
    let c : encode (decode m) ≡ m = ap₂ pack (sizes_decode m) (flat_decode m) ∙ sym (packed m n t (rows_end m t) h refl refl refl p) in
    let k : length (flat (decode m)) ≡ t = ap length (flat_decode m) ∙ rows_long m t in
    let j : length (texts (flat (decode m))) ≡ rows_end m t = ap (λ (x : List Row). length (texts x)) (flat_decode m) ∙ texts_long m n t (rows_end m t) h refl refl refl p in
    let f : all_fit (flat (decode m)) ≡ true = ap all_fit (flat_decode m) ∙ found_fit m t h in
    and_intro (is_within (decode m)) (same m (encode (decode m)))
    (true_within (decode m) (record { declarations = omega (arith, length_decode m, p.few); rows = omega (arith, p.fit); strings = omega (arith, p.room); numbers = f }))
    (ap (same m) c ∙ same_refl m)

-- ---- an encoding passes

kind_first : (o : ℕ) (r : Row) (x : List ℕ) → number (encode_row o r ++ x) 0 1 ≡ kind_number r.kind
unfolding encode_row encode_front low_first part
kind_first o r x = le_one (kind_number r.kind)

row_tidy : (o : ℕ) (r : Row) (x : List ℕ) → fits r ≡ true → o + length (strings_of r) ≤ string_limit → tidy_row o (encode_row o r ++ x) ≡ true
unfolding tidy_row
row_tidy o r x ok h =
    rw (kind_first o r x, start_back o r x (omega arith), long_back o r x (fits_true r ok), kind_back r.kind, eq-eqb (kind_number r.kind) (kind_number r.kind) refl, eq-eqb o o refl, le-leb (o + length (strings_of r)) string_limit h)

rows_tidy : (rs : List Row) (o : ℕ) (x : List ℕ) → all_fit rs ≡ true → o + length (texts rs) ≤ string_limit → tidy_end (length rs) o (encode_rows o rs ++ x) ≡ o + length (texts rs)
unfolding tidy_end encode_rows texts all_fit
rows_tidy [] o x ok h = sym (add-zero o)
rows_tidy (r ∷ rs) o x ok h =
    let n : ℕ = o + length (strings_of r) in
    let y : List ℕ = encode_rows n rs ++ x in
    let a = length-append (strings_of r) (texts rs) in
    let s = and_true (fits r) (all_fit rs) ok in
    rw (append_assoc (encode_row o r) (encode_rows n rs) x, row_tidy o r y s.0 (omega arith), long_back o r y (fits_true r s.0), drop_at (encode_row o r) y row_size (length_row o r))
    (rows_tidy rs n x s.1 (omega arith) ∙ omega arith)

module _ (cs : List ℕ) (rs : List Row) (few : length cs ≤ declaration_limit) (fit : length rs ≤ row_limit) (room : length (texts rs) ≤ string_limit) (ok : all_fit rs ≡ true) (all : sum cs ≡ length rs) where
  pack_rows : rows_before (pack cs rs) (length cs) ≡ length rs
  unfolding rows_before
  pack_rows = rw (sizes_pack cs rs (length cs) (omega arith) (omega arith), take_all (length cs) cs (omega arith)) all

  pack_end : rows_end (pack cs rs) (length rs) ≡ length (texts rs)
  unfolding rows_end
  pack_end = rows_start_lem cs rs few (λ (x : List ℕ). tidy_end (length rs) 0 x ≡ length (texts rs)) (λ x. rows_tidy rs 0 x ok (omega arith) ∙ zero-add (length (texts rs)))

  pack_tidy : is_tidy (pack cs rs) ≡ true
  unfolding is_tidy spare_zero
  pack_tidy =
      let m : List ℕ = pack cs rs in
      let e₁ : all_zero (part m (2 + 2 * length cs) (header_size - (2 + 2 * length cs))) ≡ true = ap all_zero (spare_sizes cs rs) ∙ zeros_true (header_size - (2 + 2 * length cs)) in
      let g : strings_start - (rows_start + row_size * length rs) ≡ rows_size - row_size * length rs = omega arith in
      let e₂ : all_zero (part m (rows_start + row_size * length rs) (strings_start - (rows_start + row_size * length rs))) ≡ true = rw g (ap all_zero (spare_rows cs rs few) ∙ zeros_true (rows_size - row_size * length rs)) in
      let i : layout_length - (strings_start + length (texts rs)) ≡ string_limit - length (texts rs) = omega arith in
      let e₃ : all_zero (part m (strings_start + length (texts rs)) (layout_length - (strings_start + length (texts rs)))) ≡ true = rw i (ap all_zero (spare_texts cs rs few fit) ∙ zeros_true (string_limit - length (texts rs))) in
      rw (count_pack cs rs few, pack_rows, pack_end)
      (rw (eq-eqb (length m) layout_length (length_pack cs rs few fit room), le-leb (length cs) declaration_limit few, le-leb (length rs) row_limit fit, le-leb (length (texts rs)) string_limit room, e₁, e₂, e₃))

-- AN ENCODING PASSES
encoding_tidy : (m : List ℕ) → is_encoding m ≡ true → is_tidy m ≡ true
unfolding encode
encoding_tidy m e =
    let ds = decode m in
    let p = encoding_true m e in
    let w = p.1 in
    ap is_tidy p.0 ∙ pack_tidy (sizes ds) (flat ds) (omega (arith, length_sizes ds, w.declarations)) w.rows w.strings w.numbers (sum_sizes ds)

same_tests : (a b : Bool) → (a ≡ true → b ≡ true) → (b ≡ true → a ≡ true) → a ≡ b
same_tests true b f g = sym (f refl)
same_tests false true f g = g refl
same_tests false false f g = refl

-- THE TESTS ARE EXACT
pub tidy_exact : (m : List ℕ) → AllBytes m → is_tidy m ≡ is_encoding m
tidy_exact m h = same_tests (is_tidy m) (is_encoding m) (tidy_encoding m h) (encoding_tidy m)
