-- Rows one behind the other: what the rules of a declaration come to where its rows are put together from subtrees.
-- Assumes nothing.
use mathlib.Core.Path.{◌≡◌, refl, sym, ap, ◌∙◌}
use mathlib.Core.Bool.{Bool, true, false, not, cond, ◌&&◌, ◌||◌, and_assoc}
use mathlib.Core.List.{List, [], ◌∷◌, ◌++◌, append-nil}
use Prim.Native.Nat.{ℕ, ◌+◌, ◌<◌, ◌≤◌}
use native.Mathlib.Omega.{arith}
use lib.Dec.{eqb, leb}
use borrow.Author.Tests.{eq-eqb, ne_eqb, le-leb, le-ltb, lt-ltb, leb-true, eqb-true}
use Rattle.ground.proofs.Laws.{and_true}
use Rattle.name.specs.Name.{every}
use Rattle.row.specs.Rows.{Row}
use Rattle.row.specs.Kinds.{kind_number}
use Rattle.row.specs.declared.kind.Kind.{Kind}
use Rattle.row.specs.declared.kind.Kind.TheVariants.{Union, Record, Enum, Field, Symbol}
use Rattle.resolve.specs.Kinds.{is_kind, is_definition, is_schema, is_alias_of, is_part_of, has_one, past, body_fits, parts_fit}
use Rattle.resolve.specs.Rules.{under, kinds_at, some, no_two, good_parts, no_clash, good_row, good_rows, climbs}
use Rattle.resolve.proofs.KindLaws.{schema_number, kind_not}
use Rattle.resolve.proofs.ResolveLaws.{some_append}

-- every row is at least d deep
unfoldable pub at_least : ℕ → List Row → Bool
at_least d rows = every (λ (r : Row). leb d r.depth) rows

-- the next row, if there is one, is at most d deep: nothing more stands under a row of depth d
unfoldable pub stops : ℕ → List Row → Bool
stops d [] = true
stops d (r ∷ rows) = leb r.depth d

-- ---- the rows under a row

pub under_all : (d : ℕ) (a b : List Row) → at_least (d + 1) a ≡ true → under d (a ++ b) ≡ a ++ under d b
unfolding under at_least every
under_all d [] b h = refl
under_all d (r ∷ a) b h =
    let p = and_true (leb (d + 1) r.depth) _ h in
    let k : d < r.depth = omega (arith, leb-true (d + 1) r.depth p.0) in
    rw (lt-ltb d r.depth k) (ap (λ (x : List Row). r ∷ x) (under_all d a b p.1))

pub under_stop : (d : ℕ) (b : List Row) → stops d b ≡ true → under d b ≡ []
unfolding under stops
under_stop d [] h = refl
under_stop d (r ∷ b) h = rw (le-ltb d r.depth (leb-true r.depth d h))

-- all that stands under a row: a subtree, then a row that is not deeper
pub under_is : (d : ℕ) (a b : List Row) → at_least (d + 1) a ≡ true → stops d b ≡ true → under d (a ++ b) ≡ a
under_is d a b h k = under_all d a b h ∙ ap (λ (x : List Row). a ++ x) (under_stop d b k) ∙ append-nil a

under_front : (d : ℕ) (a b : List Row) → stops d b ≡ true → under d (a ++ b) ≡ under d a
unfolding under
under_front d [] b k = under_stop d b k
under_front d (r ∷ a) b k = rw (under_front d a b k)

-- ---- the kinds of parts

pub kinds_append : (d : ℕ) (a b : List Row) → kinds_at d (a ++ b) ≡ kinds_at d a ++ kinds_at d b
unfolding kinds_at
kinds_append d [] b = refl
kinds_append d (r ∷ a) b = rw (kinds_append d a b) (go (eqb r.depth d) (kinds_at d a) (kinds_at d b))
  where
    go : (t : Bool) (x y : List Kind) → cond t (r.kind ∷ (x ++ y)) (x ++ y) ≡ cond t (r.kind ∷ x) x ++ y
    go true x y = refl
    go false x y = refl

pub kinds_none : (d : ℕ) (a : List Row) → at_least (d + 1) a ≡ true → kinds_at d a ≡ []
unfolding kinds_at at_least every
kinds_none d [] h = refl
kinds_none d (r ∷ a) h =
    let p = and_true (leb (d + 1) r.depth) _ h in
    let k = leb-true (d + 1) r.depth p.0 in
    let n : r.depth ≡ d → ⊥ = λ (e : r.depth ≡ d). omega arith in
    rw (ne_eqb r.depth d n) (kinds_none d a p.1)

-- a subtree has one part
pub kinds_one : (d : ℕ) (r : Row) (a : List Row) → r.depth ≡ d → at_least (d + 1) a ≡ true → kinds_at d (r ∷ a) ≡ r.kind ∷ []
unfolding kinds_at
kinds_one d r a e h = rw (eq-eqb r.depth d e, kinds_none d a h)

-- aliases, then parts
past_aliases : (test : Kind → Bool) (front ks : List Kind) → every test front ≡ true → past test (front ++ ks) ≡ past test ks
unfolding past every
past_aliases test [] ks h = refl
past_aliases test (k ∷ front) ks h = let p = and_true (test k) (every test front) h in rw p.0 (past_aliases test front ks p.1)

-- no part is an alias
alias_number : (kind k : Kind) → is_alias_of kind k ≡ true → 48 ≤ kind_number k
unfolding is_alias_of is_kind
alias_number kind k e = go (is_definition kind) (eqb (kind_number kind) (kind_number Field)) e
  where
    go : (d f : Bool) → cond d (eqb (kind_number k) 48) (f && eqb (kind_number k) 49) ≡ true → 48 ≤ kind_number k
    go true f e = omega (arith, eqb-true (kind_number k) 48 e)
    go false true e = omega (arith, eqb-true (kind_number k) 49 e)
    go false false e = let z : ◌≡◌ {A = ℕ} 0 1 = cc in absurd (omega arith)

number_part : (kind k : Kind) → 48 ≤ kind_number k → is_part_of kind k ≡ false
unfolding is_part_of
number_part kind k h = go (is_kind Record kind) (is_kind Enum kind) (is_kind Union kind) (not (is_kind Union k)) (has_one kind)
  where
    field_not : is_kind Field k ≡ false
    field_not = kind_not Field k (omega arith)

    symbol_not : is_kind Symbol k ≡ false
    symbol_not = kind_not Symbol k (omega arith)

    schema_not : is_schema k ≡ false
    schema_not = sym (schema_number k) ∙ le-ltb (kind_number k) (kind_number Field) (omega arith)

    go : (r e u v o : Bool) → cond r (is_kind Field k) (cond e (is_kind Symbol k) (cond u (v && is_schema k) (o && is_schema k))) ≡ false
    go true e u v o = field_not
    go false true u v o = symbol_not
    go false false true true o = schema_not
    go false false true false o = refl
    go false false false v true = schema_not
    go false false false v false = refl

part_alias : (kind k : Kind) → is_part_of kind k ≡ true → is_alias_of kind k ≡ false
part_alias kind k e = go (is_alias_of kind k) refl
  where
    go : (b : Bool) → is_alias_of kind k ≡ b → b ≡ false
    go false q = refl
    go true q = sym e ∙ number_part kind k (alias_number kind k q)

past_none : (kind : Kind) (ks : List Kind) → every (is_part_of kind) ks ≡ true → past (is_alias_of kind) ks ≡ ks
unfolding past every
past_none kind [] h = refl
past_none kind (k ∷ ks) h = rw (part_alias kind k (and_true (is_part_of kind k) (every (is_part_of kind) ks) h).0)

pub parts_fit_lem : (kind : Kind) (front ks : List Kind) → every (is_alias_of kind) front ≡ true → body_fits kind ks ≡ true → parts_fit kind (front ++ ks) ≡ true
unfolding parts_fit body_fits
parts_fit_lem kind front ks h b =
    rw (past_aliases (is_alias_of kind) front ks h, past_none kind ks (and_true (every (is_part_of kind) ks) _ b).0) b

-- ---- clashes

pub two_append : (meet : Row → Row → Bool) (a b : List Row) → no_two meet (a ++ b) ≡ (no_two meet a && every (λ (r : Row). not (some (meet r) b)) a && no_two meet b)
unfolding no_two every
two_append meet [] b = refl
two_append meet (r ∷ a) b =
    rw (two_append meet a b, some_append (meet r) a b) (go (some (meet r) a) (some (meet r) b) (no_two meet a) (every (λ (r : Row). not (some (meet r) b)) a) (no_two meet b))
  where
    go : (p q x y z : Bool) → (not (p || q) && (x && y && z)) ≡ (not p && x && (not q && y) && z)
    go true q x y z = refl
    go false true true y z = refl
    go false true false y z = refl
    go false false true y z = refl
    go false false false y z = refl

-- ---- good rows, and depths

-- a row is judged by what stands under it alone
pub good_same : (r : Row) (x y : List Row) → under r.depth x ≡ under r.depth y → good_row r x ≡ good_row r y
unfolding good_row good_parts no_clash
good_same r x y e = rw e

stops_more : (d e : ℕ) (b : List Row) → d ≤ e → stops d b ≡ true → stops e b ≡ true
unfolding stops
stops_more d e [] l h = refl
stops_more d e (r ∷ b) l h = le-leb r.depth e (omega (arith, leb-true r.depth d h))

-- rows that are at least d deep, then rows of which the first is at most d deep
pub good_append : (d : ℕ) (a b : List Row) → at_least d a ≡ true → stops d b ≡ true → good_rows (a ++ b) ≡ (good_rows a && good_rows b)
unfolding good_rows at_least every
good_append d [] b h k = refl
good_append d (r ∷ a) b h k =
    let p = and_true (leb d r.depth) _ h in
    let s : stops r.depth b ≡ true = stops_more d r.depth b (leb-true d r.depth p.0) k in
    rw (good_append d a b p.1 k, good_same r (a ++ b) a (under_front r.depth a b s)) (sym (and_assoc (good_row r a) (good_rows a) (good_rows b)))

-- the depth of the last row, d where there is none
unfoldable pub last_depth : ℕ → List Row → ℕ
last_depth d [] = d
last_depth d (r ∷ rows) = last_depth r.depth rows

pub climbs_append : (d : ℕ) (a b : List Row) → climbs d (a ++ b) ≡ (climbs d a && climbs (last_depth d a) b)
unfolding climbs last_depth
climbs_append d [] b = refl
climbs_append d (r ∷ a) b = rw (climbs_append r.depth a b) (sym (and_assoc (leb 1 r.depth && leb r.depth (d + 1)) (climbs r.depth a) (climbs (last_depth r.depth a) b)))

pub last_least : (e d : ℕ) (a : List Row) → e ≤ d → at_least e a ≡ true → e ≤ last_depth d a
unfolding at_least every last_depth
last_least e d [] l h = l
last_least e d (r ∷ a) l h = let p = and_true (leb e r.depth) _ h in last_least e r.depth a (leb-true e r.depth p.0) p.1
