-- What the readers' steps come to, over plain values.
-- Assumes nothing.
use mathlib.Core.Path.{◌≡◌, sym, ap, ◌∙◌}
use mathlib.Core.List.{List}
use Prim.Native.Nat.{ℕ, suc, ◌+◌, ◌-◌, ◌*◌, ◌<◌, ◌≤◌, min}
use native.Mathlib.Decide.{dec_le}
use native.Mathlib.Nat.{add-zero, sub-zero}
use native.Mathlib.Omega.{arith}
use lib.ListN.{length, take, drop, get_or, length-take, length-drop, drop_of_length-le}
use lib.Seq.{drop-drop, take-nil, take_all}
use borrow.Author.Tests.{eq-eqb, ne_eqb}
use Rattle.answer.specs.declared.counts.Counts.{Counts}
use Rattle.answer.specs.Limits.{counts_of}
use Rattle.ground.specs.Bytes.{part}
use Rattle.row.specs.Kinds.{kind_of}
use Rattle.row.specs.Numbers.{le, number}
use Rattle.row.specs.Layout.{row_size, rows_start, string_limit, strings_start, layout_length}
use Rattle.row.specs.Rows.{entry_of, text_of, text_start, text_length, default_of, default_length, strings_length}
use Rattle.row.specs.Sets.{sum, words_of, count_in, sizes_in}
use Rattle.row.specs.Memory.{from_row, entry_at, text_at, default_at, text_place, default_place, behind, size_at, rows_before, text_end, strings_before, counts_in}
use Rattle.row.specs.declared.kind.Kind.{Kind}
use Rattle.row.specs.declared.Entry.{Entry}
use Rattle.row.proofs.NumberLaws.{number_one}

-- ---- a row's numbers

pub number_from_lem : (m : List ℕ) (at k n : ℕ) → number m (at + k) n ≡ number (drop at m) k n
unfolding part
number_from_lem m at k n = ap (λ (l : List ℕ). le (take n l)) (sym (drop-drop k at m))

pub byte_from : (m : List ℕ) (at k : ℕ) → get_or m (at + k) 0 ≡ number (drop at m) k 1
byte_from m at k = sym (number_one m (at + k)) ∙ number_from_lem m at k 1

module _ (m : List ℕ) (i : ℕ) where
  at : ℕ
  at = rows_start + row_size * i

  pub read_kind : (k : Kind) → k ≡ kind_of (get_or m (rows_start + row_size * i) 0) → k ≡ (entry_at m i).kind
  unfolding at entry_at entry_of
  read_kind k e = e ∙ ap (λ (n : ℕ). kind_of (get_or m n 0)) (sym (add-zero at)) ∙ ap kind_of (byte_from m at 0)

  pub read_depth : {r : ℕ} → r ≡ number m (rows_start + row_size * i + 2) 2 → r ≡ (entry_at m i).depth
  unfolding at entry_at entry_of
  read_depth e = e ∙ number_from_lem m at 2 2

  pub read_position : {r : ℕ} → r ≡ number m (rows_start + row_size * i + 4) 2 → r ≡ (entry_at m i).position
  unfolding at entry_at entry_of
  read_position e = e ∙ number_from_lem m at 4 2

  pub read_size : {r : ℕ} → r ≡ number m (rows_start + row_size * i + 10) 8 → r ≡ (entry_at m i).size
  unfolding at entry_at entry_of
  read_size e = e ∙ number_from_lem m at 10 8

  pub read_note : get_or m (rows_start + row_size * i + 1) 0 ≡ (entry_at m i).note
  unfolding at entry_at entry_of
  read_note = byte_from m at 1

  pub read_precision : {r : ℕ} → r ≡ number m (rows_start + row_size * i + 18) 8 → r ≡ (entry_at m i).precision
  unfolding at entry_at entry_of
  read_precision e = e ∙ number_from_lem m at 18 8

  pub read_scale : {r : ℕ} → r ≡ number m (rows_start + row_size * i + 26) 8 → r ≡ (entry_at m i).scale
  unfolding at entry_at entry_of
  read_scale e = e ∙ number_from_lem m at 26 8

  pub read_entry : (k : Kind) (d p s q z : ℕ) → k ≡ kind_of (get_or m (rows_start + row_size * i) 0) → d ≡ number m (rows_start + row_size * i + 2) 2 → p ≡ number m (rows_start + row_size * i + 4) 2
      → s ≡ number m (rows_start + row_size * i + 10) 8 → q ≡ number m (rows_start + row_size * i + 18) 8 → z ≡ number m (rows_start + row_size * i + 26) 8
      → ◌≡◌ {A = Entry} (record { kind = k; depth = d; position = p; size = s; note = get_or m (rows_start + row_size * i + 1) 0; precision = q; scale = z }) (entry_at m i)
  unfolding at entry_at entry_of
  read_entry k d p s q z ek ed ep es eq ez =
      let fk = read_kind k ek in
      let fd = ed ∙ number_from_lem m at 2 2 in
      let fp = ep ∙ number_from_lem m at 4 2 in
      let fs = es ∙ number_from_lem m at 10 8 in
      let fn = byte_from m at 1 in
      let fq = eq ∙ number_from_lem m at 18 8 in
      let fz = ez ∙ number_from_lem m at 26 8 in
      λ j. record { kind = fk j; depth = fd j; position = fp j; size = fs j; note = fn j; precision = fq j; scale = fz j }

-- ---- a row's string

cut_none : (s : List ℕ) (at n : ℕ) → length s ≤ at → take (length s - length s) (drop (length s) s) ≡ part s at n
unfolding part
cut_none s at n h = ap (take (length s - length s)) (drop_of_length-le s {i = length s} (omega arith)) ∙ take-nil (length s - length s) ∙ sym (ap (take n) (drop_of_length-le s h) ∙ take-nil n)

cut_rest : (s : List ℕ) (at n : ℕ) → length s - at ≤ n → take (length s - at) (drop at s) ≡ part s at n
unfolding part
cut_rest s at n h =
    let l = length-drop at s in
    take_all (length s - at) (drop at s) (omega arith) ∙ sym (take_all n (drop at s) (omega arith))

cut_part : (s : List ℕ) (at n : ℕ) → take (at + n - at) (drop at s) ≡ part s at n
unfolding part
cut_part s at n = let e : at + n - at ≡ n = omega arith in rw e

pub cut_is : (s : List ℕ) (at n f k : ℕ) → f ≡ min at (length s) → k ≡ min n (length s - f) → take (f + k - f) (drop f s) ≡ part s at n
cut_is s at n f k e d =
    elim (dec_le (length s) at) [
      | yes h ↦ let a : f ≡ length s = omega arith in let b : length s + k - length s ≡ length s - length s = omega arith in rw (a, b) (cut_none s at n h)
      | no h ↦
          let a : f ≡ at = omega arith in
          elim (dec_le (length s - at) n) [
            | yes l ↦ let b : at + k - at ≡ length s - at = omega arith in rw (a, b) (cut_rest s at n l)
            | no l ↦ let b : k ≡ n = omega arith in rw (a, b) (cut_part s at n)
          ]
    ]

pub read_text : (m x : List ℕ) (i b n : ℕ) → b ≡ text_start (from_row m i) → n ≡ text_length (from_row m i) → x ≡ part (take (length m - strings_start) (drop strings_start m)) b n → x ≡ text_at m i
unfolding text_at text_of
read_text m x i b n p q e =
    let l = length-drop strings_start m in
    e ∙ rw (take_all (length m - strings_start) (drop strings_start m) (omega arith), p, q)

pub read_default : (m x : List ℕ) (i b k n : ℕ) → b ≡ text_start (from_row m i) → k ≡ text_length (from_row m i) → n ≡ default_length (from_row m i) → x ≡ part (take (length m - strings_start) (drop strings_start m)) (b + k) n
    → x ≡ default_at m i
unfolding default_at default_of
read_default m x i b k n p q s e =
    let l = length-drop strings_start m in
    e ∙ rw (take_all (length m - strings_start) (drop strings_start m) (omega arith), p, q, s)

-- and where it lies: a part of a part is a part
pub lies : (p : ℕ × ℕ) {a b : ℕ} → a ≡ b → behind p a ≡ behind p b
lies p e = ap (behind p) e

pub text_lies : (m : List ℕ) (i b : ℕ) (p q : ℕ × ℕ) → length m ≡ layout_length → b ≡ text_start (from_row m i)
    → q ≡ behind (behind p strings_start) (min b (length (take (length m - strings_start) (drop strings_start m)))) → q ≡ behind p (text_place m i)
unfolding text_place
text_lies m i b p q l e h =
    let n : length (take (length m - strings_start) (drop strings_start m)) ≡ string_limit = length-take (length m - strings_start) (drop strings_start m) ∙ omega (arith, length-drop strings_start m) in
    let k : min b (length (take (length m - strings_start) (drop strings_start m))) + (strings_start + p.1) ≡ strings_start + min (text_start (from_row m i)) string_limit + p.1 = rw (n, e) (omega arith) in
    h ∙ ap (λ (x : ℕ). (p.0, x)) k

pub default_lies : (m : List ℕ) (i b k : ℕ) (p q : ℕ × ℕ) → length m ≡ layout_length → b ≡ text_start (from_row m i) → k ≡ text_length (from_row m i)
    → q ≡ behind (behind p strings_start) (min (b + k) (length (take (length m - strings_start) (drop strings_start m)))) → q ≡ behind p (default_place m i)
unfolding default_place
default_lies m i b k p q l e f h =
    let n : length (take (length m - strings_start) (drop strings_start m)) ≡ string_limit = length-take (length m - strings_start) (drop strings_start m) ∙ omega (arith, length-drop strings_start m) in
    let j : min (b + k) (length (take (length m - strings_start) (drop strings_start m))) + (strings_start + p.1) ≡ strings_start + min (text_start (from_row m i) + text_length (from_row m i)) string_limit + p.1
    = rw (n, e, f) (omega arith) in
    h ∙ ap (λ (x : ℕ). (p.0, x)) j

pub no_rows : (m : List ℕ) (n : ℕ) → n ≡ 0 → 0 ≡ strings_before m n
unfolding strings_before
no_rows m n e = rw (eq-eqb n 0 e)

pub some_rows : (m : List ℕ) (n b k : ℕ) → (n ≡ 0 → ⊥) → b ≡ text_start (from_row m (n - 1)) → k ≡ strings_length (from_row m (n - 1)) → b + k ≡ strings_before m n
unfolding strings_before text_end
some_rows m n b k h p q = rw (ne_eqb n 0 h, p, q)

-- ---- the rows before a place: what is counted, and what is left

pub before_start : (m : List ℕ) (k : ℕ) → 0 + sum (words_of (k - 0) (drop (2 + 2 * 0) m)) ≡ rows_before m k
unfolding rows_before sizes_in
before_start m k = rw sub-zero (omega arith)

module _ (m : List ℕ) (k i s x : ℕ) (inv : s + sum (words_of (k - i) (drop (2 + 2 * i) m)) ≡ x) where
  pub before_turn : i < k → (n : ℕ) → n ≡ size_at m i → s + n + sum (words_of (k - (i + 1)) (drop (2 + 2 * (i + 1)) m)) ≡ x
  unfolding words_of sum size_at part
  before_turn l n e =
      let f : k - i ≡ suc (k - (i + 1)) = omega arith in
      let g : 2 + 2 * i + 2 ≡ 2 + 2 * (i + 1) = omega arith in
      omega (arith, rw (f, drop-drop 2 (2 + 2 * i) m, g) at inv)

  pub before_end : k ≤ i → s ≡ x
  unfolding words_of sum
  before_end l = let f : k - i ≡ 0 = omega arith in omega (arith, rw f at inv)

-- ---- the counts

module _ (m : List ℕ) (n r : ℕ) (p : n ≡ count_in m) (q : r ≡ rows_before m n) where
  pub few_rows : (k : ℕ) → rows_before m (count_in m) ≤ k → r ≤ k
  few_rows k h = rw (q, p) h

  pub read_counts : (s : ℕ) (c : Counts) → s ≡ strings_before m r → c ≡ counts_of n r s → c ≡ counts_in m
  unfolding counts_in
  read_counts s c t e = e ∙ rw (t, q, p)
