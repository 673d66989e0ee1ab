-- What a set cites: well-formed memory is exactly the encoding of a good set, and how good sets grow and are cut.
-- Assumes nothing.
use mathlib.Core.Path.{◌≡◌, refl}
use mathlib.Core.Bool.{Bool, true, false, not, cond, ◌&&◌, ◌||◌}
use mathlib.Core.List.{List, [], ◌∷◌, ◌++◌}
use Prim.Native.Nat.{ℕ, ◌+◌, ◌-◌, ◌^◌, ◌<◌, ◌≤◌}
use native.Mathlib.Omega.{arith}
use lib.Dec.{eqb, leb, ltb, lit≤}
use lib.ListN.{length}
use borrow.Author.Tests.{lt-ltb, ltb-true, leb-true, eqb-true}
use Rattle.ground.specs.Bytes.{byte_at}
use Rattle.ground.proofs.Laws.{and_true, and_intro, never}
use Rattle.name.specs.Name.{every, is_empty, is_simple, is_dotted, is_reserved}
use Rattle.name.specs.Full.{is_short, kept_limit}
use Rattle.name.proofs.Laws.{empty_nil}
use Rattle.json_scan.specs.Json.{longest, is_space, scanned}
use Rattle.row.specs.Layout.{row_limit}
use Rattle.row.specs.Rows.{Row, fits, all_fit}
use Rattle.row.specs.declared.kind.Kind.{Kind}
use Rattle.row.specs.declared.kind.Kind.TheVariants.{Bytes, Reference, Fixed, Field, Symbol, Alias, FieldAlias}
use Rattle.resolve.specs.Kinds.{is_kind, is_definition, is_schema}
use Rattle.resolve.specs.Rules.{is_full_name, is_own_name, good_text, passes, is_default, good_default, good_strings, good_size, good_note, good_precision, good_decimal, good_numbers, good_parts, good_row, good_rows, climbs, is_declaration}

-- ---- the numbers of good rows

pub record Numbered (r : Row) : Type 0 where
  pub position : r.position < longest
  pub size : good_size r ≡ true
  pub note : good_note r.kind r.note ≡ true
  pub precision : good_precision r.kind r.size r.precision ≡ true
  pub decimal : good_decimal r.note r.precision r.scale ≡ true

pub numbered : (r : Row) → good_numbers r ≡ true → Numbered r
unfolding good_numbers
numbered r e =
    let a = and_true _ (good_decimal r.note r.precision r.scale) e in
    let b = and_true _ (good_precision r.kind r.size r.precision) a.0 in
    let c = and_true _ (good_note r.kind r.note) b.0 in
    let d = and_true (ltb r.position longest) (good_size r) c.0 in
    record { position = ltb-true _ _ d.0; size = d.1; note = c.1; precision = b.1; decimal = a.1 }

-- ---- they fit their bytes

pub size_fits : (r : Row) → good_size r ≡ true → r.size < 2 ^ 64
unfolding good_size
size_fits r e = go r.size (is_kind Fixed r.kind) (is_empty r.default) e
  where
    go : (n : ℕ) (b none : Bool) → cond b (ltb n (2 ^ 64)) (cond none (eqb n 0) (ltb n longest)) ≡ true → n < 2 ^ 64
    go n true none e = ltb-true _ _ e
    go n false true e = omega (arith, eqb-true n 0 e)
    go n false false e = omega (arith, ltb-true n longest e)

note_fits : (k : Kind) (n : ℕ) → good_note k n ≡ true → n < 2 ^ 8
unfolding good_note
note_fits k n e = go (is_kind Fixed k) (is_kind Bytes k) e
  where
    go : (x y : Bool) → cond x (leb n 7) (cond y (leb n 6) (eqb n 0)) ≡ true → n < 2 ^ 8
    go true y e = omega (arith, leb-true n 7 e)
    go false true e = omega (arith, leb-true n 6 e)
    go false false e = omega (arith, eqb-true n 0 e)

decimal_fits : (n p s : ℕ) → good_decimal n p s ≡ true → (p < 2 ^ 64) × (s < 2 ^ 64)
unfolding good_decimal
decimal_fits n p s e = go (eqb n 1) e
  where
    go : (b : Bool) → cond b (leb 1 p && leb s p && ltb p (2 ^ 64)) (eqb p 0 && eqb s 0) ≡ true → (p < 2 ^ 64) × (s < 2 ^ 64)
    go true e =
        let a = and_true (leb 1 p && leb s p) _ e in
        let h : p < 2 ^ 64 = ltb-true _ _ a.1 in
        (h, omega (arith, leb-true s p (and_true (leb 1 p) _ a.0).1))
    go false e =
        let a = and_true (eqb p 0) _ e in
        (omega (arith, eqb-true p 0 a.0), omega (arith, eqb-true s 0 a.1))

short_fits : (s : List ℕ) → is_short s ≡ true → length s < 2 ^ 8
unfolding is_short
short_fits s e = omega (arith, leb-true (length s) kept_limit e)

empty_fits : (s : List ℕ) → is_empty s ≡ true → length s < 2 ^ 8
empty_fits s e = rw (empty_nil s e) (lit≤ tt)

text_fits : (k : Kind) (s : List ℕ) → good_text k s ≡ true → length s < 2 ^ 8
unfolding good_text is_full_name is_own_name
text_fits k s e = go (is_definition k || is_kind Alias k) (is_kind Reference k) (is_kind Field k || is_kind FieldAlias k || is_kind Symbol k) e
  where
    go : (x y z : Bool) → cond x (is_short s && is_dotted s && not (is_reserved s)) (cond y (is_short s && is_dotted s) (cond z (is_short s && is_simple s) (is_empty s))) ≡ true → length s < 2 ^ 8
    go true y z e = short_fits s (and_true (is_short s) (is_dotted s) (and_true (is_short s && is_dotted s) _ e).0).0
    go false true z e = short_fits s (and_true (is_short s) (is_dotted s) e).0
    go false false true e = short_fits s (and_true (is_short s) (is_simple s) e).0
    go false false false e = empty_fits s e

pub strings_text : (r : Row) → good_strings r ≡ true → good_text r.kind r.text ≡ true
unfolding good_strings
strings_text r e = (and_true (good_text r.kind r.text) (good_default r.kind r.default) e).0

pub strings_default : (r : Row) → good_strings r ≡ true → good_default r.kind r.default ≡ true
unfolding good_strings
strings_default r e = (and_true (good_text r.kind r.text) (good_default r.kind r.default) e).1

-- none, or a short one of a field
default_fits_lem : (k : Kind) (s : List ℕ) → good_default k s ≡ true → length s < 2 ^ 8
unfolding good_default is_default
default_fits_lem k s e = go (is_empty s) refl (is_kind Field k) e
  where
    go : (none : Bool) → is_empty s ≡ none → (b : Bool) → (none || (b && (is_short s && passes (scanned s) && not (is_space (byte_at s 0)) && not (is_space (byte_at s (length s - 1)))))) ≡ true → length s < 2 ^ 8
    go true n b e = empty_fits s n
    go false n true e = short_fits s (and_true (is_short s) _ (and_true (is_short s && passes (scanned s)) _ (and_true (is_short s && passes (scanned s) && not (is_space (byte_at s 0))) _ e).0).0).0
    go false n false e = never e

strings_fit : (r : Row) → good_strings r ≡ true → (length r.text < 2 ^ 8) × (length r.default < 2 ^ 8)
strings_fit r e =
    (text_fits r.kind r.text (strings_text r e), default_fits_lem r.kind r.default (strings_default r e))

row_fits : (r : Row) → good_strings r ≡ true → good_numbers r ≡ true → r.depth < 2 ^ 16 → fits r ≡ true
unfolding fits
row_fits r s e h =
    let g = numbered r e in
    let p : r.position < 2 ^ 16 = omega (arith, g.position) in
    let d = decimal_fits r.note r.precision r.scale g.decimal in
    let l = strings_fit r s in
    rw (lt-ltb r.depth (2 ^ 16) h, lt-ltb r.position (2 ^ 16) p, lt-ltb r.size (2 ^ 64) (size_fits r g.size), lt-ltb r.note (2 ^ 8) (note_fits r.kind r.note g.note), lt-ltb r.precision (2 ^ 64) d.0, lt-ltb r.scale (2 ^ 64) d.1, lt-ltb (length r.text) (2 ^ 8) l.0, lt-ltb (length r.default) (2 ^ 8) l.1)

-- what a good row keeps
pub row_keeps : (r : Row) (rest : List Row) → good_row r rest ≡ true → (good_strings r ≡ true) × (good_numbers r ≡ true)
unfolding good_row
row_keeps r rest e =
    let a = and_true (good_strings r && good_numbers r && good_parts r rest) _ e in
    let b = and_true (good_strings r && good_numbers r) _ a.0 in
    and_true (good_strings r) (good_numbers r) b.0

pub row_numbers_lem : (r : Row) (rest : List Row) → good_row r rest ≡ true → good_numbers r ≡ true
row_numbers_lem r rest e = (row_keeps r rest e).1

good_fits : (r : Row) (rest : List Row) → good_row r rest ≡ true → r.depth < 2 ^ 16 → fits r ≡ true
good_fits r rest e h = let k = row_keeps r rest e in row_fits r k.0 k.1 h

-- each row is at most one deeper than the row before it
rows_fit : (d : ℕ) (rows : List Row) → climbs d rows ≡ true → good_rows rows ≡ true → d + length rows < 2 ^ 16 → all_fit rows ≡ true
unfolding climbs good_rows all_fit
rows_fit d [] c g h = refl
rows_fit d (r ∷ rows) c g h =
    let a = and_true (leb 1 r.depth && leb r.depth (d + 1)) (climbs r.depth rows) c in
    let b = leb-true r.depth (d + 1) (and_true (leb 1 r.depth) _ a.0).1 in
    let p = and_true (good_row r rows) (good_rows rows) g in
    and_intro (fits r) (all_fit rows) (good_fits r rows p.0 (omega arith)) (rows_fit r.depth rows a.1 p.1 (omega arith))

pub declaration_fits : (rows : List Row) → is_declaration rows ≡ true → length rows ≤ row_limit → all_fit rows ≡ true
unfolding is_declaration good_rows all_fit
declaration_fits [] e h = refl
declaration_fits (r ∷ rows) e h =
    let a = and_true (eqb r.depth 0 && is_schema r.kind && climbs 0 rows) _ e in
    let b = and_true (eqb r.depth 0 && is_schema r.kind) (climbs 0 rows) a.0 in
    let z = eqb-true r.depth 0 (and_true (eqb r.depth 0) _ b.0).0 in
    let p = and_true (good_row r rows) (good_rows rows) a.1 in
    and_intro (fits r) (all_fit rows) (good_fits r rows p.0 (omega arith)) (rows_fit 0 rows b.1 p.1 (omega arith))

pub every_append : {A : Type 0} (test : A → Bool) (a b : List A) → every test (a ++ b) ≡ (every test a && every test b)
unfolding every
every_append test [] b = refl
every_append test (x ∷ a) b = rw (every_append test a b) (go (test x) (every test a) (every test b))
  where
    go : (p q z : Bool) → (p && (q && z)) ≡ (p && q && z)
    go true q z = refl
    go false q z = refl
