-- A set's memory: what the header, the rows and the strings of an encoding are, and what comes back from them.
-- Assumes nothing.
use mathlib.Core.Path.{◌≡◌, refl, sym, ap, ap₂, ◌∙◌}
use mathlib.Core.Bool.{true}
use mathlib.Core.List.{List, [], ◌∷◌, ◌++◌, append_assoc, append-nil}
use Prim.Native.Nat.{ℕ, zero, suc, ◌+◌, ◌-◌, ◌*◌, ◌^◌, ◌<◌, ◌≤◌}
use native.Mathlib.Nat.{zero-add}
use native.Mathlib.Omega.{arith}
use lib.Dec.{eqb-suc-zero, lit≤}
use lib.ListN.{length, take, drop, get_or, length-append, length-drop, take-append-drop, length-replicate, replicate-append-replicate}
use lib.Seq.{drop-cons, split_at, take-suc, drop_at, take-append_seam, drop-append_seam, drop-drop, length-take-le}
use Rattle.ground.specs.Bytes.{part, store}
use Rattle.ground.proofs.Laws.{part_front, part_mid, store_seam}
use Rattle.ground.specs.Numbers.{low_first}
use Rattle.row.specs.Numbers.{le, number}
use Rattle.row.specs.Layout.{declaration_limit, row_limit, string_limit, header_size, row_size, rows_start, rows_size, strings_start, layout_length}
use Rattle.row.specs.Rows.{Row, strings_of, all_fit, encode_row, encode_rows, texts, text_start, rows_of}
use Rattle.row.specs.Sets.{flat, sizes, sum, words, zeros, filled, pack, words_of, count_in, sizes_in, rows_from, split}
use Rattle.row.proofs.NumberLaws.{length_bytes, le_bytes}
use Rattle.row.specs.Memory.{from_row, entry_at, text_at, default_at, row_at, size_at, strings_before, text_end}
use Rattle.row.proofs.RowLaws.{fits_true, start_back, long_back, length_row, length_rows, rows_append, texts_append, rows_back, fit_append, fit_at}

-- ---- declarations and their rows

pub length_sizes : (ds : List (List Row)) → length (sizes ds) ≡ length ds
unfolding sizes
length_sizes [] = refl
length_sizes (d ∷ ds) = ap suc (length_sizes ds)

pub sum_sizes : (ds : List (List Row)) → sum (sizes ds) ≡ length (flat ds)
unfolding sizes sum flat
sum_sizes [] = refl
sum_sizes (d ∷ ds) = omega (arith, sum_sizes ds, length-append d (flat ds))

pub split_flat : (ds : List (List Row)) → split (sizes ds) (flat ds) ≡ ds
unfolding sizes split flat
split_flat [] = refl
split_flat (d ∷ ds) = rw (take-append_seam d (flat ds), drop-append_seam d (flat ds), split_flat ds)

pub flat_append : (a b : List (List Row)) → flat (a ++ b) ≡ flat a ++ flat b
unfolding flat
flat_append [] b = refl
flat_append (d ∷ a) b = ap (λ (x : List Row). d ++ x) (flat_append a b) ∙ sym (append_assoc d (flat a) (flat b))

pub sizes_append : (a b : List (List Row)) → sizes (a ++ b) ≡ sizes a ++ sizes b
unfolding sizes
sizes_append [] b = refl
sizes_append (d ∷ a) b = ap (λ (x : List ℕ). length d ∷ x) (sizes_append a b)

pub sizes_take : (k : ℕ) (ds : List (List Row)) → sizes (take k ds) ≡ take k (sizes ds)
unfolding sizes
sizes_take zero ds = refl
sizes_take (suc k) [] = refl
sizes_take (suc k) (d ∷ ds) = ap (λ (x : List ℕ). length d ∷ x) (sizes_take k ds)

-- ---- numbers of two bytes

pub length_words : (ns : List ℕ) → length (words ns) ≡ 2 * length ns
unfolding words
length_words [] = refl
length_words (n ∷ ns) = length-append (low_first 2 n) (words ns) ∙ omega (arith, length_bytes 2 n, length_words ns)

pub words_append : (a b : List ℕ) → words (a ++ b) ≡ words a ++ words b
unfolding words
words_append [] b = refl
words_append (n ∷ a) b = ap (λ (x : List ℕ). low_first 2 n ++ x) (words_append a b) ∙ sym (append_assoc (low_first 2 n) (words a) (words b))

word_back : (n : ℕ) (x : List ℕ) → n < 2 ^ 16 → number (low_first 2 n ++ x) 0 2 ≡ n
word_back n x h = ap le (part_front (low_first 2 n) x 2 (length_bytes 2 n)) ∙ le_bytes 2 n h

-- the first k of them come back
pub words_back : (k : ℕ) (ns x : List ℕ) → k ≤ length ns → sum ns < 2 ^ 16 → words_of k (words ns ++ x) ≡ take k ns
unfolding words words_of sum
words_back zero ns x l h = refl
words_back (suc k) [] x l h = absurd (omega arith)
words_back (suc k) (n ∷ ns) x l h =
    rw (append_assoc (low_first 2 n) (words ns) x, word_back n (words ns ++ x) (omega arith), drop_at (low_first 2 n) (words ns ++ x) 2 (length_bytes 2 n))
    (ap (λ (z : List ℕ). n ∷ z) (words_back k ns x (omega arith) (omega arith)))

-- ---- an area: bytes, then zeros

length_zeros : (n : ℕ) → length (zeros n) ≡ n
length_zeros n = length-replicate n 0

pub length_filled : (n : ℕ) (bs : List ℕ) → length bs ≤ n → length (filled n bs) ≡ n
unfolding filled
length_filled n bs h = length-append bs _ ∙ omega (arith, length_zeros (n - length bs))

-- more bytes behind those of an area: p is what lies before the area, z what lies behind
pub fill_more : (p bs vs z : List ℕ) (n at : ℕ) → at ≡ length p + length bs → length bs + length vs ≤ n → store (p ++ (filled n bs ++ z)) at vs ≡ p ++ (filled n (bs ++ vs) ++ z)
unfolding filled
fill_more p bs vs z n at e h =
    let k : ℕ = n - length (bs ++ vs) in
    let b : length (bs ++ vs) ≡ length bs + length vs = length-append bs vs in
    let j : n - length bs ≡ length vs + k = omega arith in
    let spare : zeros (n - length bs) ≡ zeros (length vs) ++ zeros k = ap zeros j ∙ sym (replicate-append-replicate (length vs) k 0) in
    let left : p ++ ((bs ++ zeros (n - length bs)) ++ z) ≡ (p ++ bs) ++ (zeros (length vs) ++ (zeros k ++ z)) = rw spare (simp append_assoc) in
    let right : (p ++ bs) ++ (vs ++ (zeros k ++ z)) ≡ p ++ (((bs ++ vs) ++ zeros k) ++ z) = simp append_assoc in
    ap (λ (m : List ℕ). store m at vs) left
    ∙ store_seam (p ++ bs) (zeros (length vs)) (zeros k ++ z) vs at (length-append p bs ∙ sym e) (length_zeros (length vs))
    ∙ right

-- the front of an area, and its spare bytes
fill_front : (p a b z : List ℕ) (n at k : ℕ) → length p ≡ at → length a ≡ k → part (p ++ (filled n (a ++ b) ++ z)) at k ≡ a
unfolding filled
fill_front p a b z n at k e f =
    let s : List ℕ = zeros (n - length (a ++ b)) in
    ap (λ (x : List ℕ). part (p ++ x) at k) (append_assoc (a ++ b) s z ∙ append_assoc a b (s ++ z)) ∙ part_mid p a (b ++ (s ++ z)) at k e f

fill_spare : (p bs z : List ℕ) (n at k : ℕ) → length p + length bs ≡ at → n - length bs ≡ k → part (p ++ (filled n bs ++ z)) at k ≡ zeros k
unfolding filled
fill_spare p bs z n at k e f =
    rw f
    (ap (λ (x : List ℕ). part x at k) (ap (λ (x : List ℕ). p ++ x) (append_assoc bs (zeros k) z) ∙ sym (append_assoc p bs (zeros k ++ z)))
    ∙ part_mid (p ++ bs) (zeros k) z at k (length-append p bs ∙ e) (length_zeros k))

-- ---- a packed set: its three areas

header : List ℕ → List ℕ
header cs = filled header_size (words (length cs ∷ cs))

row_area : List Row → List ℕ
row_area rs = filled rows_size (encode_rows 0 rs)

text_area : List Row → List ℕ
text_area rs = filled string_limit (texts rs)

pack_is : (cs : List ℕ) (rs : List Row) → pack cs rs ≡ header cs ++ (row_area rs ++ text_area rs)
unfolding pack header row_area text_area
pack_is cs rs = refl

length_header : (cs : List ℕ) → length cs ≤ declaration_limit → length (header cs) ≡ header_size
unfolding header
length_header cs h = length_filled header_size (words (length cs ∷ cs)) (omega (arith, length_words (length cs ∷ cs)))

length_row_area : (rs : List Row) → length rs ≤ row_limit → length (row_area rs) ≡ rows_size
unfolding row_area
length_row_area rs h = length_filled rows_size (encode_rows 0 rs) (omega (arith, length_rows 0 rs))

length_text_area : (rs : List Row) → length (texts rs) ≤ string_limit → length (text_area rs) ≡ string_limit
unfolding text_area
length_text_area rs h = length_filled string_limit (texts rs) h

pub length_pack : (cs : List ℕ) (rs : List Row) → length cs ≤ declaration_limit → length rs ≤ row_limit → length (texts rs) ≤ string_limit → length (pack cs rs) ≡ layout_length
length_pack cs rs h k l =
    rw pack_is
    (length-append (header cs) (row_area rs ++ text_area rs)
    ∙ omega (arith, length-append (row_area rs) (text_area rs), length_header cs h, length_row_area rs k, length_text_area rs l))

-- ---- the header

-- the words of the header, and what follows them
header_front : (cs : List ℕ) (rs : List Row) → pack cs rs ≡ low_first 2 (length cs) ++ (words cs ++ (zeros (header_size - length (words (length cs ∷ cs))) ++ (row_area rs ++ text_area rs)))
unfolding header filled words
header_front cs rs = pack_is cs rs ∙ simp append_assoc

pub count_pack : (cs : List ℕ) (rs : List Row) → length cs ≤ declaration_limit → count_in (pack cs rs) ≡ length cs
unfolding count_in
count_pack cs rs h = rw header_front (word_back (length cs) _ (omega arith))

pub sizes_pack : (cs : List ℕ) (rs : List Row) (k : ℕ) → k ≤ length cs → sum cs ≤ row_limit → sizes_in (pack cs rs) k ≡ take k cs
unfolding sizes_in
sizes_pack cs rs k h l = rw (header_front, drop_at (low_first 2 (length cs)) _ 2 (length_bytes 2 (length cs))) (words_back k cs _ h (omega arith))

-- ---- the rows

module _ (cs : List ℕ) (rs : List Row) (few : length cs ≤ declaration_limit) where
  from_rows : drop rows_start (pack cs rs) ≡ row_area rs ++ text_area rs
  from_rows = rw pack_is (drop_at (header cs) (row_area rs ++ text_area rs) rows_start (length_header cs few))

  from_texts : length rs ≤ row_limit → drop strings_start (pack cs rs) ≡ text_area rs
  from_texts h =
      sym (drop-drop rows_size rows_start (pack cs rs)) ∙ ap (drop rows_size) from_rows ∙ drop_at (row_area rs) (text_area rs) rows_size (length_row_area rs h)

-- the row area starts with the rows, whatever lies behind them
pub rows_start_lem : (cs : List ℕ) (rs : List Row) → length cs ≤ declaration_limit → (P : List ℕ → Type 0) → ((x : List ℕ) → P (encode_rows 0 rs ++ x)) → P (drop rows_start (pack cs rs))
unfolding row_area filled
rows_start_lem cs rs few P f =
    let s : List ℕ = zeros (rows_size - length (encode_rows 0 rs)) in
    rw (from_rows cs rs few, append_assoc (encode_rows 0 rs) s (text_area rs)) (f (s ++ text_area rs))

-- the rows b, with the rows a before them and the rows z behind
module _ (cs : List ℕ) (a b z : List Row) (few : length cs ≤ declaration_limit) (fit : length (a ++ (b ++ z)) ≤ row_limit) (room : length (texts (a ++ (b ++ z))) ≤ string_limit) where
  spare : List ℕ
  spare = zeros (rows_size - length (encode_rows 0 (a ++ (b ++ z))))

  behind : List ℕ
  behind = encode_rows (length (texts a) + length (texts b)) z ++ (spare ++ text_area (a ++ (b ++ z)))

  from_row_lem : drop (rows_start + row_size * length a) (pack cs (a ++ (b ++ z))) ≡ encode_rows (length (texts a)) b ++ behind
  unfolding row_area filled behind spare
  from_row_lem =
      let o = length (texts a) in
      let e : encode_rows 0 (a ++ (b ++ z)) ≡ encode_rows 0 a ++ (encode_rows o b ++ encode_rows (o + length (texts b)) z)
      = rows_append 0 a (b ++ z) ∙ ap (λ (x : List ℕ). encode_rows 0 a ++ x) (rw zero-add (rows_append o b z)) in
      sym (drop-drop (row_size * length a) rows_start (pack cs (a ++ (b ++ z))))
      ∙ ap (drop (row_size * length a)) (from_rows cs (a ++ (b ++ z)) few)
      ∙ ap (λ (x : List ℕ). drop (row_size * length a) ((x ++ spare) ++ text_area (a ++ (b ++ z)))) e
      ∙ ap (drop (row_size * length a)) (regroup (encode_rows 0 a) (encode_rows o b) (encode_rows (o + length (texts b)) z) spare (text_area (a ++ (b ++ z))))
      ∙ drop_at (encode_rows 0 a) _ (row_size * length a) (length_rows 0 a)
    where
      regroup : (p q r s t : List ℕ) → ((p ++ (q ++ r)) ++ s) ++ t ≡ p ++ (q ++ (r ++ (s ++ t)))
      regroup p q r s t = simp append_assoc

  pub rows_between : all_fit (a ++ (b ++ z)) ≡ true → rows_from (pack cs (a ++ (b ++ z))) (length b) (length a) ≡ b
  unfolding rows_from text_area filled
  rows_between ok =
      let e : texts (a ++ (b ++ z)) ≡ texts a ++ (texts b ++ texts z) = texts_append a (b ++ z) ∙ ap (λ (x : List ℕ). texts a ++ x) (texts_append b z) in
      let y : List ℕ = texts z ++ zeros (string_limit - length (texts (a ++ (b ++ z)))) in
      let s : drop strings_start (pack cs (a ++ (b ++ z))) ≡ texts a ++ (texts b ++ y)
      = from_texts cs (a ++ (b ++ z)) few fit ∙ ap (λ (x : List ℕ). x ++ zeros (string_limit - length (texts (a ++ (b ++ z))))) e ∙ simp append_assoc in
      let n : length (texts (a ++ (b ++ z))) ≡ length (texts a) + (length (texts b) + length (texts z)) = ap length e ∙ simp length-append in
      rw (s, from_row_lem)
      (rows_back b (length (texts a)) behind (texts a) y refl (omega (arith, room)) (fit_append b z (fit_append a (b ++ z) ok).1).0)

-- n rows from row i on
pub rows_of_lem : (cs : List ℕ) (rs : List Row) (n i : ℕ) → length cs ≤ declaration_limit → length rs ≤ row_limit → length (texts rs) ≤ string_limit → all_fit rs ≡ true → i + n ≤ length rs
    → rows_from (pack cs rs) n i ≡ take n (drop i rs)
rows_of_lem cs rs n i few fit room ok l =
    let a : List Row = take i rs in
    let b : List Row = take n (drop i rs) in
    let z : List Row = drop n (drop i rs) in
    let e : a ++ (b ++ z) ≡ rs = ap (λ (x : List Row). a ++ x) (take-append-drop n (drop i rs)) ∙ take-append-drop i rs in
    let p : length a ≡ i = length-take-le i rs (omega arith) in
    let q : length b ≡ n = length-take-le n (drop i rs) (omega (arith, length-drop i rs)) in
    rw (e, p, q) at (rows_between cs a b z few (rw e fit) (rw e room) (rw e ok))

-- one row
pub row_of : (cs : List ℕ) (rs : List Row) (i : ℕ) (d : Row) → length cs ≤ declaration_limit → length rs ≤ row_limit → length (texts rs) ≤ string_limit → all_fit rs ≡ true → i < length rs
    → row_at (pack cs rs) i ≡ get_or rs i d
unfolding rows_from rows_of entry_at text_at default_at
row_of cs rs i d few fit room ok l =
    ap (λ (x : List Row). get_or x 0 d) (rows_of_lem cs rs 1 i few fit room ok (omega arith))
    ∙ rw (drop-cons rs i d l)

-- where the strings of row i begin
pub start_of : (cs : List ℕ) (rs : List Row) (i : ℕ) → length cs ≤ declaration_limit → length rs ≤ row_limit → length (texts rs) ≤ string_limit → i < length rs
    → text_start (from_row (pack cs rs) i) ≡ length (texts (take i rs))
unfolding texts encode_rows
start_of cs rs i few fit room l =
    let d : Row = row_at [] 0 in
    let a : List Row = take i rs in
    let r : Row = get_or rs i d in
    let z : List Row = drop (suc i) rs in
    let e : a ++ ((r ∷ []) ++ z) ≡ rs = sym (split_at rs i d l) in
    let p : length a ≡ i = length-take-le i rs (omega arith) in
    let u : length (texts rs) ≡ length (texts a) + (length (strings_of r) + length (texts z)) = ap (λ (x : List Row). length (texts x)) (sym e) ∙ ap length (texts_append a (r ∷ z)) ∙ simp length-append in
    let f : drop (rows_start + row_size * i) (pack cs rs) ≡ encode_row (length (texts a)) r ++ behind cs a (r ∷ []) z few (rw e fit) (rw e room)
    = (rw (e, p, append-nil (encode_row (length (texts a)) r)) at (from_row_lem cs a (r ∷ []) z few (rw e fit) (rw e room))) in
    rw f (start_back (length (texts a)) r _ (omega arith))

-- where the strings of the first n rows end
pub strings_of_lem : (cs : List ℕ) (rs : List Row) (n : ℕ) → length cs ≤ declaration_limit → length rs ≤ row_limit → length (texts rs) ≤ string_limit → all_fit rs ≡ true → n ≤ length rs
    → strings_before (pack cs rs) n ≡ length (texts (take n rs))
unfolding strings_before text_end texts encode_rows
strings_of_lem cs rs zero few fit room ok l = refl
strings_of_lem cs rs (suc i) few fit room ok l =
    let d : Row = row_at [] 0 in
    let a : List Row = take i rs in
    let r : Row = get_or rs i d in
    let z : List Row = drop (suc i) rs in
    let e : a ++ ((r ∷ []) ++ z) ≡ rs = sym (split_at rs i d l) in
    let p : length a ≡ i = length-take-le i rs (omega arith) in
    let t : texts (take (suc i) rs) ≡ texts a ++ strings_of r = ap texts (take-suc rs i d l) ∙ texts_append a (r ∷ []) ∙ ap (λ (x : List ℕ). texts a ++ x) (append-nil (strings_of r)) in
    let n : length (texts a ++ strings_of r) ≡ length (texts a) + length (strings_of r) = length-append (texts a) (strings_of r) in
    let u : length (texts rs) ≡ length (texts a) + (length (strings_of r) + length (texts z)) = ap (λ (x : List Row). length (texts x)) (sym e) ∙ ap length (texts_append a (r ∷ z)) ∙ simp length-append in
    let f : drop (rows_start + row_size * i) (pack cs rs) ≡ encode_row (length (texts a)) r ++ behind cs a (r ∷ []) z few (rw e fit) (rw e room)
    = (rw (e, p, append-nil (encode_row (length (texts a)) r)) at (from_row_lem cs a (r ∷ []) z few (rw e fit) (rw e room))) in
    let s : suc i - 1 ≡ i = omega arith in
    rw (eqb-suc-zero i, s, f, t, n) (ap₂ ◌+◌ (start_back (length (texts a)) r _ (omega arith)) (long_back (length (texts a)) r _ (fits_true r (fit_at rs i d l ok))))

-- how many rows a place has
sum_at : (ns : List ℕ) (k : ℕ) → get_or ns k 0 ≤ sum ns
unfolding sum
sum_at [] k = omega arith
sum_at (n ∷ ns) zero = omega arith
sum_at (n ∷ ns) (suc k) = omega (arith, sum_at ns k)

pub size_of : (cs : List ℕ) (rs : List Row) (k : ℕ) → k < length cs → sum cs ≤ row_limit → size_at (pack cs rs) k ≡ get_or cs k 0
unfolding size_at words
size_of cs rs k l h =
    let n : ℕ = get_or cs k 0 in
    let a : List ℕ = take k cs in
    let z : List ℕ = drop (suc k) cs in
    let rest : List ℕ = zeros (header_size - length (words (length cs ∷ cs))) ++ (row_area rs ++ text_area rs) in
    let e : words cs ≡ words a ++ (low_first 2 n ++ words z) = ap words (split_at cs k 0 l) ∙ words_append a (n ∷ z) in
    let p : length (low_first 2 (length cs) ++ words a) ≡ 2 + 2 * k = length-append (low_first 2 (length cs)) (words a) ∙ omega (arith, length_bytes 2 (length cs), length_words a, length-take-le k cs (omega arith)) in
    ap (λ (m : List ℕ). number m (2 + 2 * k) 2) (header_front cs rs ∙ ap (λ (x : List ℕ). low_first 2 (length cs) ++ (x ++ rest)) e ∙ regroup (low_first 2 (length cs)) (words a) (low_first 2 n) (words z) rest)
    ∙ ap le (part_mid (low_first 2 (length cs) ++ words a) (low_first 2 n) (words z ++ rest) (2 + 2 * k) 2 p (length_bytes 2 n))
    ∙ le_bytes 2 n (omega (arith, sum_at cs k))
  where
    regroup : (p q r s t : List ℕ) → p ++ ((q ++ (r ++ s)) ++ t) ≡ (p ++ q) ++ (r ++ (s ++ t))
    regroup p q r s t = simp append_assoc

-- ---- writing

-- one row behind the others, and its strings behind theirs
pub write_row : (cs : List ℕ) (rs : List Row) (r : Row) → length cs ≤ declaration_limit → length rs < row_limit → length (texts rs) + length (strings_of r) ≤ string_limit
    → store (store (pack cs rs) (rows_start + row_size * length rs) (encode_row (length (texts rs)) r)) (strings_start + length (texts rs)) (strings_of r) ≡ pack cs (rs ++ (r ∷ []))
unfolding row_area text_area encode_rows texts
write_row cs rs r few fit room =
    let o = length (texts rs) in
    let h = header cs in
    let one : encode_rows 0 rs ++ encode_row o r ≡ encode_rows 0 (rs ++ (r ∷ []))
    = ap (λ (x : List ℕ). encode_rows 0 rs ++ x) (sym (append-nil (encode_row o r))) ∙ sym (rows_append 0 rs (r ∷ []) ∙ rw (zero-add o)) in
    let two : texts rs ++ strings_of r ≡ texts (rs ++ (r ∷ [])) = ap (λ (x : List ℕ). texts rs ++ x) (sym (append-nil (strings_of r))) ∙ sym (texts_append rs (r ∷ [])) in
    let area : List ℕ = row_area (rs ++ (r ∷ [])) in
    let long : length area ≡ rows_size = length_row_area (rs ++ (r ∷ [])) (omega (arith, length-append rs (r ∷ []))) in
    ap (λ (m : List ℕ). store (store m (rows_start + row_size * length rs) (encode_row o r)) (strings_start + o) (strings_of r)) (pack_is cs rs)
    ∙ ap (λ (m : List ℕ). store m (strings_start + o) (strings_of r))
    (fill_more h (encode_rows 0 rs) (encode_row o r) (text_area rs) rows_size (rows_start + row_size * length rs) (omega (arith, length_header cs few, length_rows 0 rs)) (omega (arith, length_rows 0 rs, length_row o r))
    ∙ ap (λ (x : List ℕ). h ++ (filled rows_size x ++ text_area rs)) one
    ∙ sym (append_assoc h area (text_area rs))
    ∙ ap (λ (x : List ℕ). (h ++ area) ++ x) (sym (append-nil (text_area rs))))
    ∙ fill_more (h ++ area) (texts rs) (strings_of r) [] string_limit (strings_start + o) (omega (arith, length-append h area, length_header cs few)) room
    ∙ ap (λ (x : List ℕ). (h ++ area) ++ x) (append-nil (filled string_limit (texts rs ++ strings_of r)) ∙ ap (filled string_limit) two)
    ∙ append_assoc h area (text_area (rs ++ (r ∷ [])))
    ∙ sym (pack_is cs (rs ++ (r ∷ [])))

-- one word for another
swap_front : (p q v z : List ℕ) → length p ≡ length q → store (filled header_size (p ++ v) ++ z) 0 q ≡ filled header_size (q ++ v) ++ z
unfolding filled
swap_front p q v z e =
    let s : List ℕ = zeros (header_size - length (p ++ v)) in
    let g : length (p ++ v) ≡ length (q ++ v) = length-append p v ∙ omega (arith, length-append q v) in
    ap (λ (m : List ℕ). store m 0 q) (append_assoc (p ++ v) s z ∙ append_assoc p v (s ++ z))
    ∙ store_seam [] p (v ++ (s ++ z)) q 0 refl e
    ∙ sym (append_assoc q v (s ++ z))
    ∙ sym (append_assoc (q ++ v) s z)
    ∙ ap (λ (i : ℕ). ((q ++ v) ++ zeros (header_size - i)) ++ z) g

-- one declaration more
pub write_header : (cs : List ℕ) (rs : List Row) (n : ℕ) → length cs < declaration_limit
    → store (store (pack cs rs) (2 + 2 * length cs) (low_first 2 n)) 0 (low_first 2 (length cs + 1)) ≡ pack (cs ++ (n ∷ [])) rs
unfolding header words
write_header cs rs n few =
    let z : List ℕ = row_area rs ++ text_area rs in
    let w : List ℕ = words (length cs ∷ cs) in
    let k : length (cs ++ (n ∷ [])) ≡ length cs + 1 = length-append cs (n ∷ []) in
    let one : words (cs ++ (n ∷ [])) ≡ words cs ++ low_first 2 n = words_append cs (n ∷ []) ∙ ap (λ (x : List ℕ). words cs ++ x) (append-nil (low_first 2 n)) in
    let v : List ℕ = words cs ++ low_first 2 n in
    ap (λ (m : List ℕ). store (store m (2 + 2 * length cs) (low_first 2 n)) 0 (low_first 2 (length cs + 1))) (pack_is cs rs)
    ∙ ap (λ (m : List ℕ). store m 0 (low_first 2 (length cs + 1)))
    (fill_more [] w (low_first 2 n) z header_size (2 + 2 * length cs) (omega (arith, length_words (length cs ∷ cs))) (omega (arith, length_words (length cs ∷ cs), length_bytes 2 n))
    ∙ ap (λ (x : List ℕ). filled header_size x ++ z) (append_assoc (low_first 2 (length cs)) (words cs) (low_first 2 n)))
    ∙ swap_front (low_first 2 (length cs)) (low_first 2 (length cs + 1)) v z (length_bytes 2 (length cs) ∙ sym (length_bytes 2 (length cs + 1)))
    ∙ ap₂ (λ (x : ℕ) (y : List ℕ). filled header_size (low_first 2 x ++ y) ++ z) (sym k) (sym one)
    ∙ sym (pack_is (cs ++ (n ∷ [])) rs)

-- the empty set
filled_zeros : (n k : ℕ) → k ≤ n → filled n (zeros k) ≡ zeros n
unfolding filled
filled_zeros n k h =
    let e : k + (n - length (zeros k)) ≡ n = omega (arith, length_zeros k) in
    replicate-append-replicate k (n - length (zeros k)) 0 ∙ ap zeros e

three_zeros : (a b c : ℕ) → 2 ≤ a → filled a (zeros 2) ++ (filled b (zeros 0) ++ filled c (zeros 0)) ≡ zeros (a + (b + c))
three_zeros a b c h =
    ap₂ ◌++◌ (filled_zeros a 2 h) (ap₂ ◌++◌ (filled_zeros b 0 (omega arith)) (filled_zeros c 0 (omega arith)) ∙ replicate-append-replicate b c 0)
    ∙ replicate-append-replicate a (b + c) 0

pub pack_none : pack [] [] ≡ zeros layout_length
unfolding pack words low_first encode_rows texts
pack_none = three_zeros header_size rows_size string_limit (lit≤ tt)

-- ---- the bytes of a part of the set

pack_texts : (cs : List ℕ) (rs : List Row) → pack cs rs ≡ (header cs ++ row_area rs) ++ (text_area rs ++ [])
pack_texts cs rs = pack_is cs rs ∙ sym (append_assoc (header cs) (row_area rs) (text_area rs)) ∙ ap (λ (x : List ℕ). (header cs ++ row_area rs) ++ x) (sym (append-nil (text_area rs)))

length_front : (cs : List ℕ) (rs : List Row) → length cs ≤ declaration_limit → length rs ≤ row_limit → length (header cs ++ row_area rs) ≡ strings_start
length_front cs rs few fit = length-append (header cs) (row_area rs) ∙ omega (arith, length_header cs few, length_row_area rs fit)

pub part_sizes : (a b : List ℕ) (rs : List Row) → part (pack (a ++ b) rs) 2 (2 * length a) ≡ words a
part_sizes a b rs =
    let c : List ℕ = a ++ b in
    let rest : List ℕ = zeros (header_size - length (words (length c ∷ c))) ++ (row_area rs ++ text_area rs) in
    ap (λ (m : List ℕ). part m 2 (2 * length a)) (header_front c rs ∙ ap (λ (x : List ℕ). low_first 2 (length c) ++ (x ++ rest)) (words_append a b) ∙ ap (λ (x : List ℕ). low_first 2 (length c) ++ x) (append_assoc (words a) (words b) rest))
    ∙ part_mid (low_first 2 (length c)) (words a) (words b ++ rest) 2 (2 * length a) (length_bytes 2 (length c)) (length_words a)

pub part_rows_lem : (cs : List ℕ) (a b : List Row) → length cs ≤ declaration_limit → part (pack cs (a ++ b)) rows_start (row_size * length a) ≡ encode_rows 0 a
unfolding row_area
part_rows_lem cs a b few =
    rw (pack_is, rows_append 0 a b) (fill_front (header cs) (encode_rows 0 a) _ (text_area (a ++ b)) rows_size rows_start (row_size * length a) (length_header cs few) (length_rows 0 a))

pub part_texts : (cs : List ℕ) (a b : List Row) → length cs ≤ declaration_limit → length (a ++ b) ≤ row_limit → part (pack cs (a ++ b)) strings_start (length (texts a)) ≡ texts a
unfolding text_area
part_texts cs a b few fit =
    ap (λ (m : List ℕ). part m strings_start (length (texts a))) (pack_texts cs (a ++ b) ∙ ap (λ (x : List ℕ). (header cs ++ row_area (a ++ b)) ++ (filled string_limit x ++ [])) (texts_append a b))
    ∙ fill_front (header cs ++ row_area (a ++ b)) (texts a) (texts b) [] string_limit strings_start (length (texts a)) (length_front cs (a ++ b) few fit) refl

-- ---- spare bytes

pub spare_sizes : (cs : List ℕ) (rs : List Row) → part (pack cs rs) (2 + 2 * length cs) (header_size - (2 + 2 * length cs)) ≡ zeros (header_size - (2 + 2 * length cs))
unfolding header
spare_sizes cs rs =
    let n : length (words (length cs ∷ cs)) ≡ 2 + 2 * length cs = length_words (length cs ∷ cs) ∙ omega arith in
    rw pack_is (fill_spare [] (words (length cs ∷ cs)) (row_area rs ++ text_area rs) header_size _ _ (omega arith) (omega arith))

pub spare_rows : (cs : List ℕ) (rs : List Row) → length cs ≤ declaration_limit → part (pack cs rs) (rows_start + row_size * length rs) (rows_size - row_size * length rs) ≡ zeros (rows_size - row_size * length rs)
unfolding row_area
spare_rows cs rs few =
    rw pack_is (fill_spare (header cs) (encode_rows 0 rs) (text_area rs) rows_size _ _ (omega (arith, length_header cs few, length_rows 0 rs)) (omega (arith, length_rows 0 rs)))

pub spare_texts : (cs : List ℕ) (rs : List Row) → length cs ≤ declaration_limit → length rs ≤ row_limit → part (pack cs rs) (strings_start + length (texts rs)) (string_limit - length (texts rs)) ≡ zeros (string_limit - length (texts rs))
unfolding text_area
spare_texts cs rs few fit =
    rw pack_texts (fill_spare (header cs ++ row_area rs) (texts rs) [] string_limit _ _ (omega (arith, length_front cs rs few fit)) refl)
