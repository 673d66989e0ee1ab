-- The parts of a row of good rows: they are good, and their kinds fit.
-- Assumes nothing.
use mathlib.Core.Path.{◌≡◌, refl, sym, ◌∙◌}
use mathlib.Core.Bool.{Bool, true, false, not, cond, ◌&&◌, ◌||◌}
use mathlib.Core.List.{List, [], ◌∷◌}
use Prim.Native.Nat.{ℕ, suc, ◌+◌, ◌^◌, ◌≤◌, ◌<◌}
use native.Mathlib.Omega.{arith}
use lib.Dec.{eqb, ltb}
use lib.ListN.{length}
use borrow.Author.Tests.{eqb-true, ltb-true, ltb-false, le-ltb}
use Rattle.ground.proofs.Laws.{never, and_true, and_intro}
use Rattle.name.specs.Name.{every}
use Rattle.row.specs.Rows.{Row}
use Rattle.row.specs.Kinds.{kind_number}
use Rattle.row.specs.declared.kind.Kind.{Kind}
use Rattle.row.specs.declared.kind.Kind.TheVariants.{Union, Record, Enum, Field, Symbol, Alias, FieldAlias}
use Rattle.resolve.specs.Kinds.{is_kind, is_primitive, is_definition, is_named, is_schema, is_alias_of, has_one, is_part_of, past, body_fits, parts_fit}
use Rattle.resolve.proofs.Laws.{numbered, size_fits, strings_text}
use Rattle.resolve.specs.Rules.{good_text, good_strings, good_numbers, under, kinds_at, good_parts, no_clash, good_row, good_rows, climbs, is_declaration}
use Rattle.canonical.specs.Canonical.{is_written, starts_at, parts_of}

-- ---- the rows under a row

under_under : (d e : ℕ) → d ≤ e → (rows : List Row) → under e (under d rows) ≡ under e rows
unfolding under
under_under d e h [] = refl
under_under d e h (r ∷ rows) = go (ltb d r.depth) refl (under_under d e h rows)
  where
    go : (b : Bool) → ltb d r.depth ≡ b → under e (under d rows) ≡ under e rows → under e (cond b (r ∷ under d rows) []) ≡ cond (ltb e r.depth) (r ∷ under e rows) []
    go true q i = rw i
    go false q i = let g = ltb-false d r.depth q in rw (le-ltb e r.depth (omega arith))

pub length_under : (d : ℕ) (rows : List Row) → length (under d rows) ≤ length rows
unfolding under
length_under d [] = omega arith
length_under d (r ∷ rows) = go (ltb d r.depth) (length_under d rows)
  where
    go : (b : Bool) → length (under d rows) ≤ length rows → length (cond b (r ∷ under d rows) []) ≤ suc (length rows)
    go true i = omega arith
    go false i = omega arith

same_row : (d : ℕ) (r : Row) (rows : List Row) → d < r.depth → good_row r (under d rows) ≡ good_row r rows
unfolding good_row good_parts no_clash
same_row d r rows h = rw (under_under d r.depth (omega arith) rows)

good_under : (d : ℕ) (rows : List Row) → good_rows rows ≡ true → good_rows (under d rows) ≡ true
unfolding good_rows under
good_under d [] e = refl
good_under d (r ∷ rows) e = go (ltb d r.depth) refl (good_under d rows (and_true (good_row r rows) (good_rows rows) e).1)
  where
    go : (b : Bool) → ltb d r.depth ≡ b → good_rows (under d rows) ≡ true → good_rows (cond b (r ∷ under d rows) []) ≡ true
    go true q i = and_intro (good_row r (under d rows)) (good_rows (under d rows)) (same_row d r rows (ltb-true d r.depth q) ∙ (and_true (good_row r rows) (good_rows rows) e).0) i
    go false q i = refl

-- ---- the kinds of its parts

-- of some kinds those that are written
unfoldable pub written : List Kind → List Kind
written [] = []
written (k ∷ ks) = cond (is_written k) (k ∷ written ks) (written ks)

alias_unwritten : (kind k : Kind) → is_alias_of kind k ≡ true → is_written k ≡ false
unfolding is_alias_of is_written
alias_unwritten kind k e = go (is_definition kind) (is_kind Field kind) (is_kind Alias k) (is_kind FieldAlias k) e
  where
    go : (x y a b : Bool) → cond x a (y && b) ≡ true → not (a || b) ≡ false
    go x y true b e = refl
    go x y false true e = refl
    go true y false false e = never e
    go false true false false e = never e
    go false false false false e = never e

-- what is not written is an alias, and so no part
record Unwritten (k : Kind) : Type 0 where
  no_field : is_kind Field k ≡ false
  no_symbol : is_kind Symbol k ≡ false
  no_schema : is_schema k ≡ false

unwritten : (k : Kind) → is_written k ≡ false → Unwritten k
unfolding is_written is_schema is_primitive is_named is_definition is_kind
unwritten k e = go (eqb (kind_number k) 48) refl (eqb (kind_number k) 49) refl e
  where
    go : (x : Bool) → eqb (kind_number k) 48 ≡ x → (y : Bool) → eqb (kind_number k) 49 ≡ y → not (x || y) ≡ false → Unwritten k
    go true p y q f = let n = eqb-true (kind_number k) 48 p in record { no_field = rw n; no_symbol = rw n; no_schema = rw n }
    go false p true q f = let n = eqb-true (kind_number k) 49 q in record { no_field = rw n; no_symbol = rw n; no_schema = rw n }
    go false p false q f = never (sym f)

pub schema_written : (k : Kind) → is_schema k ≡ true → is_written k ≡ true
schema_written k e = go (is_written k) refl
  where
    go : (b : Bool) → is_written k ≡ b → b ≡ true
    go true q = refl
    go false q = never (sym (unwritten k q).no_schema ∙ e)

part_written : (kind k : Kind) → is_part_of kind k ≡ true → is_written k ≡ true
unfolding is_part_of
part_written kind k e = go (is_written k) refl
  where
    no_part : (r s u o x : Bool) → cond r false (cond s false (cond u (x && false) (o && false))) ≡ true → ⊥
    no_part true s u o x f = never f
    no_part false true u o x f = never f
    no_part false false true o true f = never f
    no_part false false true o false f = never f
    no_part false false false true x f = never f
    no_part false false false false x f = never f

    go : (b : Bool) → is_written k ≡ b → b ≡ true
    go true q = refl
    go false q =
        let z = unwritten k q in
        absurd (no_part (is_kind Record kind) (is_kind Enum kind) (is_kind Union kind) (has_one kind) (not (is_kind Union k)) (rw (z.no_field, z.no_symbol, z.no_schema) at e))

body_parts : (kind : Kind) (ks : List Kind) → body_fits kind ks ≡ true → every (is_part_of kind) ks ≡ true
unfolding body_fits
body_parts kind ks e = (and_true (every (is_part_of kind) ks) (not (has_one kind) || eqb (length ks) 1) e).0

body_written : (kind : Kind) (ks : List Kind) → every (is_part_of kind) ks ≡ true → written ks ≡ ks
unfolding every written
body_written kind [] e = refl
body_written kind (k ∷ ks) e =
    let z = and_true (is_part_of kind k) (every (is_part_of kind) ks) e in
    rw (part_written kind k z.0, body_written kind ks z.1)

-- where kinds fit, those that are written are all but the aliases
fit_written : (kind : Kind) (ks : List Kind) → parts_fit kind ks ≡ true → body_fits kind (written ks) ≡ true
unfolding parts_fit past written
fit_written kind [] e = e
fit_written kind (k ∷ ks) e = go (is_alias_of kind k) refl e (fit_written kind ks)
  where
    go : (b : Bool) → is_alias_of kind k ≡ b → body_fits kind (cond b (past (is_alias_of kind) ks) (k ∷ ks)) ≡ true
        → (body_fits kind (past (is_alias_of kind) ks) ≡ true → body_fits kind (written ks) ≡ true)
        → body_fits kind (cond (is_written k) (k ∷ written ks) (written ks)) ≡ true
    go true q f i = rw (alias_unwritten kind k q) (i f)
    go false q f i = rw (← body_written kind (k ∷ ks) (body_parts kind (k ∷ ks) f)) at f

-- ---- the parts

-- rows at a depth, each with all rows behind it, good and fewer than n
pub data Starts (n d : ℕ) : List Kind → List (List Row) → Type 0 where
  nil : Starts n d [] []
  cons : {k : Kind} {ks : List Kind} (r : Row) (rows : List Row) {ps : List (List Row)}
      → r.kind ≡ k → r.depth ≡ d → is_written r.kind ≡ true → good_rows (r ∷ rows) ≡ true → length rows < n → Starts n d ks ps → Starts n d (k ∷ ks) ((r ∷ rows) ∷ ps)

starts : (n d : ℕ) (rows : List Row) → good_rows rows ≡ true → length rows ≤ n → Starts n d (written (kinds_at d rows)) (starts_at d rows)
unfolding kinds_at starts_at written good_rows
starts n d [] e h = nil
starts n d (r ∷ rows) e h = at_depth (eqb r.depth d) refl (starts n d rows (and_true (good_row r rows) (good_rows rows) e).1 (omega arith))
  where
    is_written_lem : r.depth ≡ d → (b : Bool) → is_written r.kind ≡ b → Starts n d (written (kinds_at d rows)) (starts_at d rows)
        → Starts n d (cond b (r.kind ∷ written (kinds_at d rows)) (written (kinds_at d rows))) (cond b ((r ∷ rows) ∷ starts_at d rows) (starts_at d rows))
    is_written_lem p true q rest = cons r rows refl p q e (omega arith) rest
    is_written_lem p false q rest = rest

    at_depth : (b : Bool) → eqb r.depth d ≡ b → Starts n d (written (kinds_at d rows)) (starts_at d rows)
        → Starts n d (written (cond b (r.kind ∷ kinds_at d rows) (kinds_at d rows))) (cond (b && is_written r.kind) ((r ∷ rows) ∷ starts_at d rows) (starts_at d rows))
    at_depth true p rest = is_written_lem (eqb-true r.depth d p) (is_written r.kind) refl rest
    at_depth false p rest = rest

-- a good row
pub record Good (r : Row) (rows : List Row) : Type 0 where
  pub text : good_text r.kind r.text ≡ true
  pub size : r.size < 2 ^ 64
  pub kinds : List Kind
  pub fit : body_fits r.kind kinds ≡ true
  pub parts : Starts (length rows) (r.depth + 1) kinds (parts_of r.depth rows)

pub good_row_lem : (r : Row) (rows : List Row) → good_rows (r ∷ rows) ≡ true → Good r rows
unfolding good_rows good_row good_parts parts_of
good_row_lem r rows e =
    let z = and_true (good_row r rows) (good_rows rows) e in
    let y = and_true (good_strings r && good_numbers r && good_parts r rows) (no_clash r rows) z.0 in
    let x = and_true (good_strings r && good_numbers r) (good_parts r rows) y.0 in
    let w = and_true (good_strings r) (good_numbers r) x.0 in
    let below = under r.depth rows in
    record {
      text = strings_text r w.0;
      size = size_fits r (numbered r w.1).size;
      kinds = written (kinds_at (r.depth + 1) below);
      fit = fit_written r.kind (kinds_at (r.depth + 1) below) x.1;
      parts = starts (length rows) (r.depth + 1) below (good_under r.depth rows z.1) (length_under r.depth rows);
    }

-- the first row of a declaration is a schema, and all its rows are good
pub declared_good : (r : Row) (rows : List Row) → is_declaration (r ∷ rows) ≡ true → (is_schema r.kind ≡ true) × (good_rows (r ∷ rows) ≡ true)
unfolding is_declaration
declared_good r rows e =
    let z = and_true (eqb r.depth 0 && is_schema r.kind && climbs 0 rows) (good_rows (r ∷ rows)) e in
    let y = and_true (eqb r.depth 0 && is_schema r.kind) (climbs 0 rows) z.0 in
    ((and_true (eqb r.depth 0) (is_schema r.kind) y.0).1, z.1)
