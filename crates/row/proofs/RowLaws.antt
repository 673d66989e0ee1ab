-- Rows come back from their bytes.
-- Assumes nothing.
use mathlib.Core.Path.{◌≡◌, refl, sym, ap, ap₂, ◌∙◌}
use mathlib.Core.Bool.{true}
use mathlib.Core.List.{List, [], ◌∷◌, ◌++◌, append_assoc}
use Prim.Native.Nat.{ℕ, zero, suc, ◌+◌, ◌*◌, ◌^◌, ◌<◌}
use native.Mathlib.Nat.{add-zero}
use native.Mathlib.Omega.{arith}
use lib.Dec.{ltb}
use lib.ListN.{length, get_or, length-append}
use lib.Seq.{drop_at}
use borrow.Author.Tests.{ltb-true}
use Rattle.ground.specs.Bytes.{part}
use Rattle.ground.proofs.Laws.{and_true, and_intro, part_mid}
use Rattle.row.specs.Kinds.{kind_number, kind_of}
use Rattle.ground.specs.Numbers.{low_first}
use Rattle.row.specs.Numbers.{le}
use Rattle.row.specs.Layout.{row_size}
use Rattle.row.specs.Rows.{Row, with_default, strings_of, fits, all_fit, encode_front, encode_row, encode_rows, texts, entry_of, text_start, text_of, default_of, strings_length, rows_of}
use Rattle.row.specs.declared.kind.Kind.{Kind}
use Rattle.row.specs.declared.kind.Kind.TheVariants.{Null, Boolean, Int, Long, Float, Double, Bytes, String, Reference, Array, Map, Union, Record, Enum, Fixed, Field, Symbol, Alias, FieldAlias}
use Rattle.row.proofs.NumberLaws.{le_one, le_bytes}

-- ---- kinds

-- no two kinds have one number
pub kind_back : (k : Kind) → kind_of (kind_number k) ≡ k
unfolding kind_of
kind_back Null = refl
kind_back Boolean = refl
kind_back Int = refl
kind_back Long = refl
kind_back Float = refl
kind_back Double = refl
kind_back Bytes = refl
kind_back String = refl
kind_back Reference = refl
kind_back Array = refl
kind_back Map = refl
kind_back Union = refl
kind_back Record = refl
kind_back Enum = refl
kind_back Fixed = refl
kind_back Field = refl
kind_back Symbol = refl
kind_back Alias = refl
kind_back FieldAlias = refl

pub one_kind : (j k : Kind) → kind_number j ≡ kind_number k → j ≡ k
one_kind j k e = sym (kind_back j) ∙ ap kind_of e ∙ kind_back k

-- ---- one row

pub record Fits (r : Row) : Type 0 where
  pub depth : r.depth < 2 ^ 16
  pub position : r.position < 2 ^ 16
  pub size : r.size < 2 ^ 64
  pub note : r.note < 2 ^ 8
  pub precision : r.precision < 2 ^ 64
  pub scale : r.scale < 2 ^ 64
  pub text : length r.text < 2 ^ 8
  pub default : length r.default < 2 ^ 8

pub fits_true : (r : Row) → fits r ≡ true → Fits r
unfolding fits
fits_true r e =
    let h = and_true _ (ltb (length r.default) (2 ^ 8)) e in
    let g = and_true _ (ltb (length r.text) (2 ^ 8)) h.0 in
    let a = and_true _ (ltb r.scale (2 ^ 64)) g.0 in
    let b = and_true _ (ltb r.precision (2 ^ 64)) a.0 in
    let c = and_true _ (ltb r.note (2 ^ 8)) b.0 in
    let d = and_true _ (ltb r.size (2 ^ 64)) c.0 in
    let f = and_true (ltb r.depth (2 ^ 16)) (ltb r.position (2 ^ 16)) d.0 in
    record {
      depth = ltb-true _ _ f.0;
      position = ltb-true _ _ f.1;
      size = ltb-true _ _ d.1;
      note = ltb-true _ _ c.1;
      precision = ltb-true _ _ b.1;
      scale = ltb-true _ _ a.1;
      text = ltb-true _ _ g.1;
      default = ltb-true _ _ h.1;
    }

pub length_strings : (r : Row) → length (strings_of r) ≡ length r.text + length r.default
unfolding strings_of
length_strings r = length-append r.text r.default

pub length_row : (o : ℕ) (r : Row) → length (encode_row o r) ≡ row_size
unfolding encode_row encode_front low_first
length_row o r = refl

-- its strings: p is what lies before them in the string area, y what lies behind
text_back : (o : ℕ) (r : Row) (x p y : List ℕ) → length p ≡ o → o < 2 ^ 16 → Fits r → text_of (p ++ (strings_of r ++ y)) (encode_row o r ++ x) ≡ r.text
unfolding text_of strings_of encode_row encode_front low_first part
text_back o r x p y e h g =
    let a : le (low_first 2 o) ≡ o = le_bytes 2 o h in
    let b : le (low_first 1 (length r.text)) ≡ length r.text = le_bytes 1 _ g.text in
    rw (a, b, append_assoc r.text r.default y) (part_mid p r.text (r.default ++ y) o (length r.text) e refl)

default_back : (o : ℕ) (r : Row) (x p y : List ℕ) → length p ≡ o → o < 2 ^ 16 → Fits r → default_of (p ++ (strings_of r ++ y)) (encode_row o r ++ x) ≡ r.default
unfolding default_of strings_of encode_row encode_front low_first part
default_back o r x p y e h g =
    let a : le (low_first 2 o) ≡ o = le_bytes 2 o h in
    let b : le (low_first 1 (length r.text)) ≡ length r.text = le_bytes 1 _ g.text in
    let c : le (low_first 1 (length r.default)) ≡ length r.default = le_bytes 1 _ g.default in
    let k : p ++ ((r.text ++ r.default) ++ y) ≡ (p ++ r.text) ++ (r.default ++ y) = simp append_assoc in
    rw (a, b, c, k) (part_mid (p ++ r.text) r.default y (o + length r.text) (length r.default) (length-append p r.text ∙ omega arith) refl)

pub row_back : (o : ℕ) (r : Row) (x p y : List ℕ) → length p ≡ o → o < 2 ^ 16 → fits r ≡ true
    → with_default (entry_of (encode_row o r ++ x)) (text_of (p ++ (strings_of r ++ y)) (encode_row o r ++ x)) (default_of (p ++ (strings_of r ++ y)) (encode_row o r ++ x)) ≡ r
unfolding entry_of encode_row encode_front low_first part
row_back o r x p y e h f =
    let g = fits_true r f in
    let t = text_back o r x p y e h g in
    let d = default_back o r x p y e h g in
    let kind = ap kind_of (le_one (kind_number r.kind)) ∙ kind_back r.kind in
    λ i. record {
      kind = kind i;
      depth = le_bytes 2 r.depth g.depth i;
      position = le_bytes 2 r.position g.position i;
      text = t i;
      default = d i;
      size = le_bytes 8 r.size g.size i;
      note = le_one r.note i;
      precision = le_bytes 8 r.precision g.precision i;
      scale = le_bytes 8 r.scale g.scale i;
    }

-- where its strings begin
pub start_back : (o : ℕ) (r : Row) (x : List ℕ) → o < 2 ^ 16 → text_start (encode_row o r ++ x) ≡ o
unfolding encode_row encode_front low_first part
start_back o r x h = le_bytes 2 o h

-- how long they are
pub long_back : (o : ℕ) (r : Row) (x : List ℕ) → Fits r → strings_length (encode_row o r ++ x) ≡ length (strings_of r)
unfolding encode_row encode_front low_first part
long_back o r x g = ap₂ ◌+◌ (le_bytes 1 (length r.text) g.text) (le_bytes 1 (length r.default) g.default) ∙ sym (length_strings r)

-- ---- many rows

pub length_rows : (o : ℕ) (rs : List Row) → length (encode_rows o rs) ≡ row_size * length rs
unfolding encode_rows
length_rows o [] = refl
length_rows o (r ∷ rs) = length-append (encode_row o r) (encode_rows (o + length (strings_of r)) rs) ∙ omega (arith, length_row o r, length_rows (o + length (strings_of r)) rs)

pub texts_append : (a b : List Row) → texts (a ++ b) ≡ texts a ++ texts b
unfolding texts
texts_append [] b = refl
texts_append (r ∷ a) b = ap (λ (x : List ℕ). strings_of r ++ x) (texts_append a b) ∙ sym (append_assoc (strings_of r) (texts a) (texts b))

pub rows_append : (o : ℕ) (a b : List Row) → encode_rows o (a ++ b) ≡ encode_rows o a ++ encode_rows (o + length (texts a)) b
unfolding encode_rows texts
rows_append o [] b = rw add-zero
rows_append o (r ∷ a) b =
    let n : o + length (strings_of r) + length (texts a) ≡ o + length (strings_of r ++ texts a) = omega (arith, length-append (strings_of r) (texts a)) in
    ap (λ (x : List ℕ). encode_row o r ++ x) (rows_append (o + length (strings_of r)) a b ∙ ap (λ (k : ℕ). encode_rows (o + length (strings_of r)) a ++ encode_rows k b) n)
    ∙ sym (append_assoc (encode_row o r) (encode_rows (o + length (strings_of r)) a) _)

pub fit_append : (a b : List Row) → all_fit (a ++ b) ≡ true → (all_fit a ≡ true) × (all_fit b ≡ true)
unfolding all_fit
fit_append [] b e = (refl, e)
fit_append (r ∷ a) b e =
    let p = and_true (fits r) (all_fit (a ++ b)) e in
    let q = fit_append a b p.1 in
    (and_intro (fits r) (all_fit a) p.0 q.0, q.1)

pub fit_both : (a b : List Row) → all_fit a ≡ true → all_fit b ≡ true → all_fit (a ++ b) ≡ true
unfolding all_fit
fit_both [] b p q = q
fit_both (r ∷ a) b p q = let s = and_true (fits r) (all_fit a) p in and_intro (fits r) (all_fit (a ++ b)) s.0 (fit_both a b s.1 q)

pub fit_at : (rs : List Row) (i : ℕ) (d : Row) → i < length rs → all_fit rs ≡ true → fits (get_or rs i d) ≡ true
unfolding all_fit
fit_at [] i d l e = absurd (omega arith)
fit_at (r ∷ rs) zero d l e = (and_true (fits r) (all_fit rs) e).0
fit_at (r ∷ rs) (suc i) d l e = fit_at rs i d (omega arith) (and_true (fits r) (all_fit rs) e).1

-- p is what lies in the string area before their strings, y what lies behind
pub rows_back : (rs : List Row) (o : ℕ) (x p y : List ℕ) → length p ≡ o → o + length (texts rs) < 2 ^ 16 → all_fit rs ≡ true → rows_of (p ++ (texts rs ++ y)) (length rs) (encode_rows o rs ++ x) ≡ rs
unfolding rows_of encode_rows texts all_fit
rows_back [] o x p y e h f = refl
rows_back (r ∷ rs) o x p y e h f =
    let n : ℕ = o + length (strings_of r) in
    let l : List ℕ = encode_rows n rs ++ x in
    let s = and_true (fits r) (all_fit rs) f in
    let a = length-append (strings_of r) (texts rs) in
    let g : (p ++ strings_of r) ++ (texts rs ++ y) ≡ p ++ ((strings_of r ++ texts rs) ++ y) = simp append_assoc in
    let k : p ++ (strings_of r ++ (texts rs ++ y)) ≡ p ++ ((strings_of r ++ texts rs) ++ y) = simp append_assoc in
    rw (append_assoc (encode_row o r) (encode_rows n rs) x, drop_at (encode_row o r) l row_size (length_row o r))
    (ap₂ (λ (z : Row) (zs : List Row). z ∷ zs)
    (rw k at (row_back o r l p (texts rs ++ y) e (omega arith) s.0))
    (rw g at (rows_back rs n x (p ++ strings_of r) y (length-append p (strings_of r) ∙ omega arith) (omega arith) s.1)))
