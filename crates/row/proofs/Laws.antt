-- What the callers of this crate cite: a set comes back from its bytes, and each operation on the bytes is one on the set.
-- Assumes nothing.
use mathlib.Core.Path.{◌≡◌, refl, sym, ap, ap₂, ◌∙◌}
use mathlib.Core.Bool.{true, ◌&&◌}
use mathlib.Core.List.{List, [], ◌∷◌, ◌++◌, append_assoc, append-nil}
use Prim.Native.Nat.{ℕ, suc, ◌+◌, ◌-◌, ◌*◌, ◌<◌, ◌≤◌, min}
use native.Mathlib.Omega.{arith}
use lib.Dec.{leb, lit≤}
use lib.ListN.{length, take, drop, get_or, length-append, take-append-drop}
use lib.Seq.{take_all, get_or_at}
use borrow.Author.Tests.{lt-ltb, le-leb, leb-true}
use Rattle.answer.specs.declared.counts.Counts.{Counts}
use Rattle.answer.specs.Limits.{counts_of, no_counts}
use Rattle.ground.specs.Bytes.{part, same}
use Rattle.ground.proofs.Laws.{and_true, same_true, same_refl}
use Rattle.row.specs.Layout.{declaration_limit, row_limit, string_limit, header_size, row_size, rows_start, rows_size, strings_start, layout_length}
use Rattle.row.specs.Rows.{Row, strings_of, all_fit, texts, text_start}
use Rattle.row.specs.Sets.{is_within, is_encoding, flat, sizes, zeros, pack, encode, count_in, sizes_in, rows_from, decode, Within}
use Rattle.row.specs.Memory.{from_row, row_at, text_place, size_at, rows_before, strings_before, counts_in, set_counts, most, counted, has_room, written, pushed, counted_all, pushed_all, declared}
use Rattle.row.proofs.RowLaws.{texts_append}
use Rattle.row.proofs.SetLaws.{length_sizes, sum_sizes, split_flat, flat_append, sizes_append, sizes_take, count_pack, sizes_pack, size_of, rows_of_lem, row_of, start_of, strings_of_lem, rows_between, length_pack, write_row, write_header, pack_none, part_sizes, part_rows_lem, part_texts, spare_sizes, spare_rows, spare_texts}

-- ---- what memory can hold

pub within_true : (ds : List (List Row)) → is_within ds ≡ true → Within ds
unfolding is_within
within_true ds e =
    let a = and_true (leb (length ds) declaration_limit && leb (length (flat ds)) row_limit && leb (length (texts (flat ds))) string_limit) (all_fit (flat ds)) e in
    let b = and_true (leb (length ds) declaration_limit && leb (length (flat ds)) row_limit) (leb (length (texts (flat ds))) string_limit) a.0 in
    let c = and_true (leb (length ds) declaration_limit) (leb (length (flat ds)) row_limit) b.0 in
    record { declarations = leb-true _ _ c.0; rows = leb-true _ _ c.1; strings = leb-true _ _ b.1; numbers = a.1 }

pub true_within : (ds : List (List Row)) → Within ds → is_within ds ≡ true
unfolding is_within
true_within ds w =
    rw (le-leb (length ds) declaration_limit w.declarations, le-leb (length (flat ds)) row_limit w.rows, le-leb (length (texts (flat ds))) string_limit w.strings, w.numbers)

-- ---- a set comes back

module _ (ds : List (List Row)) (w : Within ds) where
  few : length (sizes ds) ≤ declaration_limit
  few = omega (arith, length_sizes ds, w.declarations)

  pub length_encode : length (encode ds) ≡ layout_length
  unfolding encode
  length_encode = length_pack (sizes ds) (flat ds) few w.rows w.strings

  pub count_encode : count_in (encode ds) ≡ length ds
  unfolding encode
  count_encode = count_pack (sizes ds) (flat ds) few ∙ length_sizes ds

  pub sizes_encode : (k : ℕ) → k ≤ length ds → sizes_in (encode ds) k ≡ sizes (take k ds)
  unfolding encode
  sizes_encode k h = sizes_pack (sizes ds) (flat ds) k (omega (arith, length_sizes ds)) (omega (arith, sum_sizes ds, w.rows)) ∙ sym (sizes_take k ds)

  pub before_encode : (k : ℕ) → k ≤ length ds → rows_before (encode ds) k ≡ length (flat (take k ds))
  unfolding rows_before
  before_encode k h = rw (sizes_encode k h) (sum_sizes (take k ds))

  all_sizes : sizes_in (encode ds) (count_in (encode ds)) ≡ sizes ds
  all_sizes = rw count_encode (sizes_encode (length ds) (omega arith) ∙ ap sizes (take_all (length ds) ds (omega arith)))

  pub rows_encode : (n i : ℕ) → i + n ≤ length (flat ds) → rows_from (encode ds) n i ≡ take n (drop i (flat ds))
  unfolding encode
  rows_encode n i h = rows_of_lem (sizes ds) (flat ds) n i few w.rows w.strings w.numbers h

  pub row_encode : (i : ℕ) (d : Row) → i < length (flat ds) → row_at (encode ds) i ≡ get_or (flat ds) i d
  unfolding encode
  row_encode i d h = row_of (sizes ds) (flat ds) i d few w.rows w.strings w.numbers h

  pub place_encode : (i : ℕ) → i < length (flat ds) → text_place (encode ds) i ≡ strings_start + length (texts (take i (flat ds)))
  unfolding encode text_place
  place_encode i h =
      let e : text_start (from_row (pack (sizes ds) (flat ds)) i) ≡ length (texts (take i (flat ds))) = start_of (sizes ds) (flat ds) i few w.rows w.strings h in
      let n : length (texts (flat ds)) ≡ length (texts (take i (flat ds))) + length (texts (drop i (flat ds)))
      = ap (λ (x : List Row). length (texts x)) (sym (take-append-drop i (flat ds))) ∙ ap length (texts_append (take i (flat ds)) (drop i (flat ds))) ∙ length-append (texts (take i (flat ds))) (texts (drop i (flat ds))) in
      rw e (omega (arith, n, w.strings))

  pub strings_encode : (n : ℕ) → n ≤ length (flat ds) → strings_before (encode ds) n ≡ length (texts (take n (flat ds)))
  unfolding encode
  strings_encode n h = strings_of_lem (sizes ds) (flat ds) n few w.rows w.strings w.numbers h

  -- THE SET COMES BACK
  pub decode_encode : decode (encode ds) ≡ ds
  unfolding decode
  decode_encode =
      rw (all_sizes, sum_sizes ds, rows_encode (length (flat ds)) 0 (omega arith), take_all (length (flat ds)) (flat ds) (omega arith)) (split_flat ds)

  pub counts_encode : counts_in (encode ds) ≡ set_counts ds
  unfolding counts_in set_counts
  counts_encode =
      let n : rows_before (encode ds) (count_in (encode ds)) ≡ length (flat ds)
      = rw count_encode (before_encode (length ds) (omega arith) ∙ ap (λ (x : List (List Row)). length (flat x)) (take_all (length ds) ds (omega arith))) in
      rw (n, count_encode, strings_encode (length (flat ds)) (omega arith), take_all (length (flat ds)) (flat ds) (omega arith))

-- the declaration at a place: how many rows it has, and which
module _ (a : List (List Row)) (d : List Row) (b : List (List Row)) (w : Within (a ++ (d ∷ b))) where
  pub size_encode : size_at (encode (a ++ (d ∷ b))) (length a) ≡ length d
  unfolding encode sizes
  size_encode =
      let s = length_sizes a in
      let n = length-append a (d ∷ b) in
      size_of (sizes (a ++ (d ∷ b))) (flat (a ++ (d ∷ b))) (length a) (omega (arith, length_sizes (a ++ (d ∷ b)))) (omega (arith, sum_sizes (a ++ (d ∷ b)), w.rows))
      ∙ ap (λ (x : List ℕ). get_or x (length a) 0) (sizes_append a (d ∷ b))
      ∙ get_or_at (sizes a) (length d) (sizes b) 0 (length a) s

  pub declaration_encode : rows_from (encode (a ++ (d ∷ b))) (length d) (length (flat a)) ≡ d
  unfolding encode flat
  declaration_encode =
      let e : flat (a ++ (d ∷ b)) ≡ flat a ++ (d ++ flat b) = flat_append a (d ∷ b) in
      rw e (rows_between (sizes (a ++ (d ∷ b))) (flat a) d (flat b) (omega (arith, length_sizes (a ++ (d ∷ b)), w.declarations)) (rw e at w.rows) (rw e at w.strings) (rw e at w.numbers))

-- equal bytes hold equal sets
pub encode_one : (a b : List (List Row)) → Within a → Within b → encode a ≡ encode b → a ≡ b
encode_one a b v w e = sym (decode_encode a v) ∙ ap decode e ∙ decode_encode b w

-- ---- the empty set

pub encode_none : encode [] ≡ zeros layout_length
unfolding encode sizes flat
encode_none = pack_none

-- ---- rows pushed

pub counted_append : (c : Counts) (a b : List Row) → counted_all c (a ++ b) ≡ counted_all (counted_all c a) b
unfolding counted_all
counted_append c [] b = refl
counted_append c (r ∷ a) b = counted_append (counted c (length (strings_of r))) a b

pub pushed_append : (m : List ℕ) (c : Counts) (a b : List Row) → pushed_all m c (a ++ b) ≡ pushed_all (pushed_all m c a) (counted_all c a) b
unfolding pushed_all counted_all
pushed_append m c [] b = refl
pushed_append m c (r ∷ a) b = pushed_append (pushed m c r) (counted c (length (strings_of r))) a b

-- rows and string bytes are counted, past the limits too
pub counted_all_lem : (rs : List Row) (d n o : ℕ) → n ≤ most → o ≤ most → counted_all (counts_of d n o) rs ≡ counts_of d (min (n + length rs) most) (min (o + length (texts rs)) most)
unfolding counted_all counted texts
counted_all_lem [] d n o h k =
    let p : min (n + 0) most ≡ n = omega arith in
    let q : min (o + 0) most ≡ o = omega arith in
    rw (p, q)
counted_all_lem (r ∷ rs) d n o h k =
    let p : min (min (n + 1) most + length rs) most ≡ min (n + suc (length rs)) most = omega arith in
    let q : min (min (o + length (strings_of r)) most + length (texts rs)) most ≡ min (o + length (strings_of r ++ texts rs)) most = omega (arith, length-append (strings_of r) (texts rs)) in
    counted_all_lem rs d (min (n + 1) most) (min (o + length (strings_of r)) most) (omega arith) (omega arith) ∙ ap₂ (λ (x y : ℕ). counts_of d x y) p q

pub counted_small : (rs : List Row) (d n o : ℕ) → n + length rs ≤ most → o + length (texts rs) ≤ most → counted_all (counts_of d n o) rs ≡ counts_of d (n + length rs) (o + length (texts rs))
counted_small rs d n o h k =
    let p : min (n + length rs) most ≡ n + length rs = omega arith in
    let q : min (o + length (texts rs)) most ≡ o + length (texts rs) = omega arith in
    counted_all_lem rs d n o (omega arith) (omega arith) ∙ ap₂ (λ (x y : ℕ). counts_of d x y) p q

-- ONE ROW PUSHED onto a set, behind whose rows the rows of a declaration to come may lie
pub push_pack : (cs : List ℕ) (rs : List Row) (r : Row) (d : ℕ) → length cs ≤ declaration_limit → length rs < row_limit → length (texts rs) + length (strings_of r) ≤ string_limit
    → pushed (pack cs rs) (counts_of d (length rs) (length (texts rs))) r ≡ pack cs (rs ++ (r ∷ []))
unfolding pushed has_room written
push_pack cs rs r d few fit room = rw (lt-ltb (length rs) row_limit fit, le-leb (length (texts rs) + length (strings_of r)) string_limit room) (write_row cs rs r few fit room)

-- MANY
pub push_all : (cs : List ℕ) (rs more : List Row) (d : ℕ) → length cs ≤ declaration_limit → length (rs ++ more) ≤ row_limit → length (texts (rs ++ more)) ≤ string_limit
    → pushed_all (pack cs rs) (counts_of d (length rs) (length (texts rs))) more ≡ pack cs (rs ++ more)
unfolding pushed_all counted texts
push_all cs rs [] d few fit room = ap (pack cs) (sym (append-nil rs))
push_all cs rs (r ∷ more) d few fit room =
    let one : List Row = rs ++ (r ∷ []) in
    let e : one ++ more ≡ rs ++ (r ∷ more) = append_assoc rs (r ∷ []) more in
    let n : length one ≡ length rs + 1 = length-append rs (r ∷ []) in
    let t : texts one ≡ texts rs ++ strings_of r = texts_append rs (r ∷ []) ∙ ap (λ (x : List ℕ). texts rs ++ x) (append-nil (strings_of r)) in
    let k : length (texts one) ≡ length (texts rs) + length (strings_of r) = ap length t ∙ length-append (texts rs) (strings_of r) in
    let fit' : length rs + suc (length more) ≤ row_limit = omega (arith, length-append rs (r ∷ more)) in
    let j : length (texts (rs ++ (r ∷ more))) ≡ length (texts one) + length (texts more) = ap (λ (x : List Row). length (texts x)) (sym e) ∙ ap length (texts_append one more) ∙ length-append (texts one) (texts more) in
    let p : min (length rs + 1) most ≡ length one = omega arith in
    let q : min (length (texts rs) + length (strings_of r)) most ≡ length (texts one) = omega arith in
    rw (p, q, push_pack cs rs r d few (omega arith) (omega arith))
    (push_all cs one more d few (rw e fit) (rw e room) ∙ ap (pack cs) e)

-- rows pushed onto empty memory are read there
pub draft_rows : (rs : List Row) → length rs ≤ row_limit → length (texts rs) ≤ string_limit → all_fit rs ≡ true → rows_from (pushed_all (zeros layout_length) no_counts rs) (length rs) 0 ≡ rs
unfolding texts
draft_rows rs fit room ok =
    ap (λ (m : List ℕ). rows_from (pushed_all m no_counts rs) (length rs) 0) (sym pack_none)
    ∙ ap (λ (m : List ℕ). rows_from m (length rs) 0) (push_all [] [] rs 0 (lit≤ tt) fit room)
    ∙ rows_of_lem [] rs (length rs) 0 (lit≤ tt) fit room ok (omega arith)
    ∙ take_all (length rs) rs (omega arith)

-- ---- one declaration more

pub declare_pack : (cs : List ℕ) (rs : List Row) (n : ℕ) → length cs < declaration_limit → declared (pack cs rs) (length cs) n ≡ pack (cs ++ (n ∷ [])) rs
unfolding declared
declare_pack cs rs n few = write_header cs rs n few

pub encode_snoc : (ds : List (List Row)) (d : List Row) → encode (ds ++ (d ∷ [])) ≡ pack (sizes ds ++ (length d ∷ [])) (flat ds ++ d)
unfolding encode sizes flat
encode_snoc ds d = ap₂ pack (sizes_append ds (d ∷ [])) (flat_append ds (d ∷ []) ∙ ap (λ (x : List Row). flat ds ++ x) (append-nil d))

-- ROWS PUSHED AND COUNTED are one declaration more
pub append_encode : (ds : List (List Row)) (d : List Row) → Within (ds ++ (d ∷ [])) → declared (pushed_all (encode ds) (set_counts ds) d) (length ds) (length d) ≡ encode (ds ++ (d ∷ []))
unfolding encode set_counts flat
append_encode ds d w =
    let e : flat (ds ++ (d ∷ [])) ≡ flat ds ++ d = flat_append ds (d ∷ []) ∙ ap (λ (x : List Row). flat ds ++ x) (append-nil d) in
    let n = length-append ds (d ∷ []) in
    let s = length_sizes ds in
    ap (λ (m : List ℕ). declared m (length ds) (length d)) (push_all (sizes ds) (flat ds) d (length ds) (omega (arith, w.declarations)) (rw e at w.rows) (rw e at w.strings))
    ∙ ap (λ (k : ℕ). declared (pack (sizes ds) (flat ds ++ d)) k (length d)) (sym s)
    ∙ declare_pack (sizes ds) (flat ds ++ d) (length d) (omega (arith, w.declarations))
    ∙ sym (encode_snoc ds d)

-- ---- what lies before a place stays: two sets that agree there have the same bytes there

module _ (a b c : List (List Row)) (v : Within (a ++ b)) (w : Within (a ++ c)) where
  pub same_sizes : part (encode (a ++ b)) 2 (2 * length a) ≡ part (encode (a ++ c)) 2 (2 * length a)
  unfolding encode
  same_sizes = rw (sizes_append a b, sizes_append a c, ← length_sizes a) (part_sizes (sizes a) (sizes b) _ ∙ sym (part_sizes (sizes a) (sizes c) _))

  pub same_rows : part (encode (a ++ b)) rows_start (row_size * length (flat a)) ≡ part (encode (a ++ c)) rows_start (row_size * length (flat a))
  unfolding encode
  same_rows = rw (flat_append a b, flat_append a c) (part_rows_lem _ (flat a) (flat b) (few (a ++ b) v) ∙ sym (part_rows_lem _ (flat a) (flat c) (few (a ++ c) w)))

  pub same_texts : part (encode (a ++ b)) strings_start (length (texts (flat a))) ≡ part (encode (a ++ c)) strings_start (length (texts (flat a)))
  unfolding encode
  same_texts =
      rw (flat_append a b, flat_append a c)
      (part_texts _ (flat a) (flat b) (few (a ++ b) v) (rw (flat_append a b) at v.rows) ∙ sym (part_texts _ (flat a) (flat c) (few (a ++ c) w) (rw (flat_append a c) at w.rows)))

-- ---- every byte past what is used is 0

module _ (ds : List (List Row)) (w : Within ds) where
  pub spare_sizes_encode : part (encode ds) (2 + 2 * length ds) (header_size - (2 + 2 * length ds)) ≡ zeros (header_size - (2 + 2 * length ds))
  unfolding encode
  spare_sizes_encode = rw (← length_sizes ds) (spare_sizes (sizes ds) (flat ds))

  pub spare_rows_encode : part (encode ds) (rows_start + row_size * length (flat ds)) (rows_size - row_size * length (flat ds)) ≡ zeros (rows_size - row_size * length (flat ds))
  unfolding encode
  spare_rows_encode = spare_rows (sizes ds) (flat ds) (few ds w)

  pub spare_texts_encode : part (encode ds) (strings_start + length (texts (flat ds))) (string_limit - length (texts (flat ds))) ≡ zeros (string_limit - length (texts (flat ds)))
  unfolding encode
  spare_texts_encode = spare_texts (sizes ds) (flat ds) (few ds w) w.rows

-- ---- an encoding is the encoding of what it holds

pub encoding_true : (m : List ℕ) → is_encoding m ≡ true → (m ≡ encode (decode m)) × Within (decode m)
unfolding is_encoding
encoding_true m e = let p = and_true (is_within (decode m)) (same m (encode (decode m))) e in (same_true m (encode (decode m)) p.1, within_true (decode m) p.0)

pub true_encoding : (ds : List (List Row)) → Within ds → is_encoding (encode ds) ≡ true
unfolding is_encoding
true_encoding ds w = rw (decode_encode ds w, true_within ds w) (same_refl (encode ds))

-- what the readers ask for, and the counts
pub record Held (m : List ℕ) : Type 0 where
  pub long : length m ≡ layout_length
  pub few : count_in m ≤ declaration_limit
  pub fit : rows_before m (count_in m) ≤ row_limit
  pub counts : counts_in m ≡ set_counts (decode m)

pub held : (m : List ℕ) → is_encoding m ≡ true → Held m
held m e =
    let ds : List (List Row) = decode m in
    let p : m ≡ encode ds = (encoding_true m e).0 in
    let w : Within ds = (encoding_true m e).1 in
    let n : count_in m ≡ length ds = ap count_in p ∙ count_encode ds w in
    let r : rows_before m (count_in m) ≡ length (flat ds) = ap₂ rows_before p n ∙ before_encode ds w (length ds) (omega arith) ∙ ap (λ (x : List (List Row)). length (flat x)) (take_all (length ds) ds (omega arith)) in
    record { long = ap length p ∙ length_encode ds w; few = omega (arith, w.declarations); fit = omega (arith, w.rows); counts = ap counts_in p ∙ counts_encode ds w }
