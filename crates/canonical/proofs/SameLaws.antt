-- Rows that differ only in positions, aliases, defaults, notes, precision and scale have one text.
-- Assumes nothing.
use mathlib.Core.Path.{◌≡◌, refl, sym, ap, ap₂, ◌∙◌}
use mathlib.Core.Bool.{Bool, true, false, cond, ◌&&◌, ◌||◌, and-false}
use mathlib.Core.List.{List, [], ◌∷◌, ◌++◌, map}
use Prim.Native.Nat.{ℕ, zero, suc, ◌+◌, ◌≤◌}
use native.Mathlib.Omega.{arith}
use lib.Dec.{eqb, ltb, leb}
use lib.ListN.{length}
use borrow.Author.Tests.{ltb-true, ltb-false, leb-true, eq-eqb, eqb-true}
use Rattle.ground.proofs.Laws.{never, and_true, and_intro}
use Rattle.name.specs.Name.{every}
use Rattle.row.specs.Rows.{Row}
use Rattle.row.specs.Kinds.{kind_number}
use Rattle.row.specs.declared.kind.Kind.{Kind}
use Rattle.row.specs.declared.kind.Kind.TheVariants.{Null, Boolean, Int, Long, Float, Double, Bytes, String, Reference, Array, Map, Union, Record, Enum, Fixed, Field, Symbol, Alias, FieldAlias}
use Rattle.resolve.specs.Kinds.{is_kind, is_definition, is_schema, is_alias_of, has_one, is_part_of, past, body_fits, parts_fit}
use Rattle.resolve.specs.Rules.{under, kinds_at, good_strings, good_numbers, good_parts, good_row, good_rows, climbs, is_declaration}
use Rattle.resolve.proofs.KindLaws.{schema_number, kind_not}
use Rattle.canonical.specs.Pieces.{opening, closing}
use Rattle.canonical.specs.Canonical.{is_written, starts_at, parts_of, listed, text_of, canonical_of}
use Rattle.canonical.specs.Claims.{bare, stripped}
use Rattle.canonical.proofs.TextLaws.{under_under}
use Rattle.canonical.proofs.FuelLaws.{enough}

-- ---- no row stands under an alias

is_none : List Row → Bool
is_none [] = true
is_none (r ∷ rows) = false

leafy : List Row → Bool
leafy [] = true
leafy (r ∷ rows) = (is_written r.kind || is_none (under r.depth rows)) && leafy rows

none_true : (rows : List Row) → is_none rows ≡ true → rows ≡ []
unfolding is_none
none_true [] e = refl
none_true (r ∷ rows) e = never e

leafy_parts : (r : Row) (rows : List Row) → leafy (r ∷ rows) ≡ true → ((is_written r.kind || is_none (under r.depth rows)) ≡ true) × (leafy rows ≡ true)
unfolding leafy
leafy_parts r rows e = and_true (is_written r.kind || is_none (under r.depth rows)) (leafy rows) e

leafy_cons : (r : Row) (rows : List Row) → (is_written r.kind || is_none (under r.depth rows)) ≡ true → leafy rows ≡ true → leafy (r ∷ rows) ≡ true
unfolding leafy
leafy_cons r rows p q = and_intro (is_written r.kind || is_none (under r.depth rows)) (leafy rows) p q

leafy_under : (d : ℕ) (rows : List Row) → leafy rows ≡ true → leafy (under d rows) ≡ true
unfolding under leafy
leafy_under d [] e = refl
leafy_under d (r ∷ rows) e = go (ltb d r.depth) refl (leafy_under d rows (leafy_parts r rows e).1)
  where
    go : (x : Bool) → ltb d r.depth ≡ x → leafy (under d rows) ≡ true → leafy (cond x (r ∷ under d rows) []) ≡ true
    go true p h =
        let l = ltb-true d r.depth p in
        leafy_cons r (under d rows) (ap (λ (x : List Row). is_written r.kind || is_none x) (under_under d r.depth rows (omega arith)) ∙ (leafy_parts r rows e).0) h
    go false p h = refl

-- ---- what is stripped away stands under nothing and has nothing under it

strip_written : (r : Row) (rows : List Row) → is_written r.kind ≡ true → stripped (r ∷ rows) ≡ bare r ∷ stripped rows
unfolding stripped
strip_written r rows e = rw e

strip_alias : (r : Row) (rows : List Row) → is_written r.kind ≡ false → stripped (r ∷ rows) ≡ stripped rows
unfolding stripped
strip_alias r rows e = rw e

under_bare : (d : ℕ) (r : Row) (rows : List Row) → under d (bare r ∷ rows) ≡ cond (ltb d r.depth) (bare r ∷ under d rows) []
unfolding under bare
under_bare d r rows = refl

under_strip : (d : ℕ) (rows : List Row) → leafy rows ≡ true → under d (stripped rows) ≡ stripped (under d rows)
unfolding under stripped
under_strip d [] e = refl
under_strip d (r ∷ rows) e = go (is_written r.kind) refl (ltb d r.depth) refl (under_strip d rows (leafy_parts r rows e).1)
  where
    go : (w : Bool) → is_written r.kind ≡ w → (x : Bool) → ltb d r.depth ≡ x → under d (stripped rows) ≡ stripped (under d rows)
        → under d (cond w (bare r ∷ stripped rows) (stripped rows)) ≡ stripped (cond x (r ∷ under d rows) [])
    go true p true q h = under_bare d r (stripped rows) ∙ rw (q, strip_written r (under d rows) p) (ap (λ (x : List Row). bare r ∷ x) h)
    go true p false q h = under_bare d r (stripped rows) ∙ rw q
    go false p true q h = rw (strip_alias r (under d rows) p) h
    go false p false q h =
        let l = ltb-false d r.depth q in
        let a = none_true (under r.depth rows) (ap (λ (x : Bool). x || is_none (under r.depth rows)) (sym p) ∙ (leafy_parts r rows e).0) in
        let b : under d rows ≡ [] = sym (under_under r.depth d rows l) ∙ ap (under d) a in
        h ∙ ap stripped b

-- ---- the text

module _ (n : ℕ) (same : (r : Row) (rows : List Row) → is_written r.kind ≡ true → leafy (r ∷ rows) ≡ true → text_of n (stripped (r ∷ rows)) ≡ text_of n (r ∷ rows)) (d : ℕ) where
  starts_strip : (rows : List Row) → leafy rows ≡ true → map (text_of n) (starts_at d (stripped rows)) ≡ map (text_of n) (starts_at d rows)
  unfolding starts_at stripped bare
  starts_strip [] e = refl
  starts_strip (r ∷ rows) e = go (is_written r.kind) refl (eqb r.depth d) refl (starts_strip rows (leafy_parts r rows e).1)
    where
      go : (w : Bool) → is_written r.kind ≡ w → (x : Bool) → eqb r.depth d ≡ x → map (text_of n) (starts_at d (stripped rows)) ≡ map (text_of n) (starts_at d rows)
          → map (text_of n) (starts_at d (cond w (bare r ∷ stripped rows) (stripped rows))) ≡ map (text_of n) (cond (x && w) ((r ∷ rows) ∷ starts_at d rows) (starts_at d rows))
      go true p true q h =
          rw (p, q) (ap₂ (λ (a : List ℕ) (b : List (List ℕ)). a ∷ b) (ap (text_of n) (sym (strip_written r rows p)) ∙ same r rows p e) h)
      go true p false q h = rw (p, q) h
      go false p x q h = rw (and-false x) h

-- only a fixed's text has a size
opening_size : (k : Kind) (name : List ℕ) (size : ℕ) → opening k name (cond (is_kind Fixed k) size 0) ≡ opening k name size
unfolding opening is_kind
opening_size Null name size = refl
opening_size Boolean name size = refl
opening_size Int name size = refl
opening_size Long name size = refl
opening_size Float name size = refl
opening_size Double name size = refl
opening_size Bytes name size = refl
opening_size String name size = refl
opening_size Reference name size = refl
opening_size Array name size = refl
opening_size Map name size = refl
opening_size Union name size = refl
opening_size Record name size = refl
opening_size Enum name size = refl
opening_size Fixed name size = refl
opening_size Field name size = refl
opening_size Symbol name size = refl
opening_size Alias name size = refl
opening_size FieldAlias name size = refl

text_strip : (n : ℕ) (r : Row) (rows : List Row) → is_written r.kind ≡ true → leafy (r ∷ rows) ≡ true → text_of n (stripped (r ∷ rows)) ≡ text_of n (r ∷ rows)
unfolding text_of parts_of bare
text_strip zero r rows w e = refl
text_strip (suc n) r rows w e =
    let d = r.depth in
    let l = (leafy_parts r rows e).1 in
    let a = starts_strip n (text_strip n) (d + 1) (under d rows) (leafy_under d rows l) in
    rw (strip_written r rows w, under_strip d rows l, opening_size r.kind r.text r.size)
    (ap (λ (ps : List (List ℕ)). opening r.kind r.text r.size ++ (listed ps ++ closing r.kind)) a)

strip_length : (rows : List Row) → length (stripped rows) ≤ length rows
unfolding stripped
strip_length [] = omega arith
strip_length (r ∷ rows) = go (is_written r.kind) (strip_length rows)
  where
    go : (w : Bool) → length (stripped rows) ≤ length rows → length (cond w (bare r ∷ stripped rows) (stripped rows)) ≤ suc (length rows)
    go true h = omega arith
    go false h = omega arith

-- ---- declarations are such

no_parts : (k : Kind) (ks : List Kind) → is_written k ≡ false → parts_fit k ks ≡ true → ks ≡ []
unfolding is_written is_kind parts_fit past body_fits every is_alias_of is_definition is_part_of has_one
no_parts k [] w e = refl
no_parts Alias (x ∷ ks) w e = never e
no_parts FieldAlias (x ∷ ks) w e = never e
no_parts Null (x ∷ ks) w e = never (sym w)
no_parts Boolean (x ∷ ks) w e = never (sym w)
no_parts Int (x ∷ ks) w e = never (sym w)
no_parts Long (x ∷ ks) w e = never (sym w)
no_parts Float (x ∷ ks) w e = never (sym w)
no_parts Double (x ∷ ks) w e = never (sym w)
no_parts Bytes (x ∷ ks) w e = never (sym w)
no_parts String (x ∷ ks) w e = never (sym w)
no_parts Reference (x ∷ ks) w e = never (sym w)
no_parts Array (x ∷ ks) w e = never (sym w)
no_parts Map (x ∷ ks) w e = never (sym w)
no_parts Union (x ∷ ks) w e = never (sym w)
no_parts Record (x ∷ ks) w e = never (sym w)
no_parts Enum (x ∷ ks) w e = never (sym w)
no_parts Fixed (x ∷ ks) w e = never (sym w)
no_parts Field (x ∷ ks) w e = never (sym w)
no_parts Symbol (x ∷ ks) w e = never (sym w)

-- a row that is deeper is a part: rows go down one by one
leaf : (d : ℕ) (rows : List Row) → kinds_at (d + 1) (under d rows) ≡ [] → climbs d rows ≡ true → under d rows ≡ []
unfolding under kinds_at climbs
leaf d [] k c = refl
leaf d (r ∷ rows) k c = go (ltb d r.depth) refl k
  where
    go : (x : Bool) → ltb d r.depth ≡ x → kinds_at (d + 1) (cond x (r ∷ under d rows) []) ≡ [] → cond x (r ∷ under d rows) [] ≡ []
    go false p k = refl
    go true p k =
        let a = (and_true (leb 1 r.depth && leb r.depth (d + 1)) (climbs r.depth rows) c).0 in
        let b = leb-true r.depth (d + 1) (and_true (leb 1 r.depth) _ a).1 in
        let q : r.depth ≡ d + 1 = omega (arith, ltb-true d r.depth p) in
        let z : (r.kind ∷ kinds_at (d + 1) (under d rows)) ≡ [] = rw (eq-eqb r.depth (d + 1) q) at k in
        let f : ◌≡◌ {A = ℕ} 1 0 = cc in absurd (omega arith)

good_parts_lem : (r : Row) (rows : List Row) → good_row r rows ≡ true → good_parts r rows ≡ true
unfolding good_row
good_parts_lem r rows e = (and_true (good_strings r && good_numbers r) _ (and_true (good_strings r && good_numbers r && good_parts r rows) _ e).0).1

row_leafy : (r : Row) (rows : List Row) → good_row r rows ≡ true → climbs r.depth rows ≡ true → (is_written r.kind || is_none (under r.depth rows)) ≡ true
unfolding is_none good_parts
row_leafy r rows e c = go (is_written r.kind) refl
  where
    go : (w : Bool) → is_written r.kind ≡ w → (w || is_none (under r.depth rows)) ≡ true
    go true p = refl
    go false p = rw (leaf r.depth rows (no_parts r.kind _ p (good_parts_lem r rows e)) c)

rows_leafy : (d : ℕ) (rows : List Row) → climbs d rows ≡ true → good_rows rows ≡ true → leafy rows ≡ true
unfolding climbs good_rows leafy
rows_leafy d [] c g = refl
rows_leafy d (r ∷ rows) c g =
    let a = and_true (leb 1 r.depth && leb r.depth (d + 1)) (climbs r.depth rows) c in
    let b = and_true (good_row r rows) (good_rows rows) g in
    leafy_cons r rows (row_leafy r rows b.0 a.1) (rows_leafy r.depth rows a.1 b.1)

pub schema_written : (k : Kind) → is_schema k ≡ true → is_written k ≡ true
unfolding is_written
schema_written k e =
    let l = ltb-true (kind_number k) 40 (schema_number k ∙ e) in
    rw (kind_not Alias k (λ (z : kind_number k ≡ 48). omega arith), kind_not FieldAlias k (λ (z : kind_number k ≡ 49). omega arith))

-- THE TEXT DOES NOT DEPEND on what is stripped away
pub same_text : (rows : List Row) → is_declaration rows ≡ true → canonical_of rows ≡ canonical_of (stripped rows)
unfolding is_declaration good_rows canonical_of
same_text [] e = never e
same_text (r ∷ rows) e =
    let a = and_true (eqb r.depth 0 && is_schema r.kind && climbs 0 rows) _ e in
    let b = and_true (eqb r.depth 0 && is_schema r.kind) (climbs 0 rows) a.0 in
    let z = and_true (eqb r.depth 0) _ b.0 in
    let g = and_true (good_row r rows) (good_rows rows) a.1 in
    let q : climbs r.depth rows ≡ true = rw (eqb-true r.depth 0 z.0) b.1 in
    let l = leafy_cons r rows (row_leafy r rows g.0 q) (rows_leafy 0 rows b.1 g.1) in
    sym (text_strip (length (r ∷ rows)) r rows (schema_written r.kind z.1) l) ∙ enough (length (r ∷ rows)) (stripped (r ∷ rows)) (strip_length (r ∷ rows))

-- two declarations that differ in nothing else
pub same_texts : (a b : List Row) → is_declaration a ≡ true → is_declaration b ≡ true → stripped a ≡ stripped b → canonical_of a ≡ canonical_of b
same_texts a b p q e = same_text a p ∙ ap canonical_of e ∙ sym (same_text b q)
