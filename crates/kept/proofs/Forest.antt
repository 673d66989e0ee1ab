-- Rows in preorder: trees one behind the other, all of one depth, whose rows are good ones.
-- Assumes nothing.
use mathlib.Core.Path.{◌≡◌, refl, sym, ap, ◌∙◌}
use mathlib.Core.Bool.{Bool, true, false, cond}
use mathlib.Core.List.{List, [], ◌∷◌, ◌++◌}
use Prim.Native.Nat.{ℕ, ◌+◌, ◌<◌, ◌≤◌}
use native.Mathlib.Omega.{arith}
use lib.Dec.{eqb, ltb}
use lib.ListN.{length}
use borrow.Author.Tests.{eq-eqb, ne_eqb, eqb-false, le-leb, lt-ltb, le-ltb}
use Rattle.ground.proofs.Laws.{never, and_true, and_intro}
use Rattle.name.specs.Name.{every, is_empty}
use Rattle.row.specs.Rows.{Row}
use Rattle.row.specs.declared.kind.Kind.{Kind}
use Rattle.schema.specs.Schema.{written_at}
use Rattle.resolve.specs.Kinds.{is_schema, parts_fit}
use Rattle.resolve.specs.Rules.{good_text, good_default, good_strings, good_numbers, under, kinds_at, no_two, clash, good_parts, no_clash, good_row, good_rows, climbs, is_declaration}
use Rattle.kept.proofs.Lists.{All, nil, cons, all_append, every_both, kinds_append}

-- ---- depths: none below e, the first at most m, each at most 1 deeper than the row before it

pub data Chain (e : ℕ) : ℕ → List Row → Type 0 where
  end : {m : ℕ} → Chain e m []
  link : {m : ℕ} {r : Row} {rs : List Row} → e ≤ r.depth → r.depth ≤ m → Chain e (r.depth + 1) rs → Chain e m (r ∷ rs)

pub chain_fit : {e f m n : ℕ} {rs : List Row} → Chain e m rs → f ≤ e → m ≤ n → Chain f n rs
chain_fit end h k = end
chain_fit {n = n} (link {r = r} l u c) h k = link {m = n} {r = r} (omega arith) (omega arith) (chain_fit c h (omega arith))

pub chain_append : {e m : ℕ} {xs ys : List Row} → e ≤ m → Chain e m xs → Chain e e ys → Chain e m (xs ++ ys)
chain_append h end d = chain_fit d (omega arith) h
chain_append h (link l u c) d = link l u (chain_append (omega arith) c d)

chain_climbs_to : (d : ℕ) {m : ℕ} {rs : List Row} → Chain 1 m rs → m ≡ d + 1 → climbs d rs ≡ true
unfolding climbs
chain_climbs_to d end e = refl
chain_climbs_to d (link {r = r} {rs = rs} l u c) e =
    let u' : r.depth ≤ d + 1 = omega (arith, u, e) in
    rw (le-leb 1 r.depth l, le-leb r.depth (d + 1) u') (chain_climbs_to r.depth c refl)

chain_climbs : (d : ℕ) {rs : List Row} → Chain 1 (d + 1) rs → climbs d rs ≡ true
chain_climbs d c = chain_climbs_to d c refl

-- ---- what stands under a row

under_deep : {d e m : ℕ} {rs : List Row} → d < e → Chain e m rs → under d rs ≡ rs
unfolding under
under_deep h end = refl
under_deep {d = d} h (link {r = r} l u c) = rw (lt-ltb d r.depth (omega arith)) (ap (λ (x : List Row). r ∷ x) (under_deep h c))

under_none : {d e : ℕ} {rs : List Row} → e ≤ d → Chain e e rs → under d rs ≡ []
unfolding under
under_none h end = refl
under_none {d = d} h (link {r = r} l u c) = rw (le-ltb d r.depth (omega arith))

under_append : {d e : ℕ} (xs : List Row) {ys : List Row} → e ≤ d → Chain e e ys → under d (xs ++ ys) ≡ under d xs
unfolding under
under_append [] h c = under_none h c
under_append {d = d} (r ∷ xs) {ys = ys} h c = go (ltb d r.depth) (under_append xs h c)
  where
    go : (b : Bool) → under d (xs ++ ys) ≡ under d xs → cond b (r ∷ under d (xs ++ ys)) [] ≡ cond b (r ∷ under d xs) []
    go true e = rw e
    go false e = refl

pub kinds_deep : {d e m : ℕ} {rs : List Row} → d < e → Chain e m rs → kinds_at d rs ≡ []
unfolding kinds_at
kinds_deep h end = refl
kinds_deep {d = d} h (link {r = r} l u c) = rw (ne_eqb r.depth d (λ (q : r.depth ≡ d). omega arith)) (kinds_deep h c)

-- ---- good rows

-- a row without a default
pub plain_strings : (r : Row) → r.default ≡ [] → good_text r.kind r.text ≡ true → good_strings r ≡ true
unfolding good_strings good_default is_empty
plain_strings r d t = rw (d, t)

-- a row with the rows under it
pub good_row_lem : (r : Row) {m : ℕ} {kids : List Row} → Chain (r.depth + 1) m kids
    → good_strings r ≡ true
    → good_numbers r ≡ true
    → parts_fit r.kind (kinds_at (r.depth + 1) kids) ≡ true
    → no_two (clash r.kind r.depth) kids ≡ true
    → good_row r kids ≡ true
unfolding good_row good_parts no_clash
good_row_lem r c t n p z = rw (under_deep {d = r.depth} (omega arith) c, t, n, p, z)

-- it does not mind rows behind it that do not stand under it
row_behind : (r : Row) {e : ℕ} (xs : List Row) {ys : List Row} → e ≤ r.depth → Chain e e ys → good_row r (xs ++ ys) ≡ good_row r xs
unfolding good_row good_parts no_clash
row_behind r xs h c = rw (under_append xs h c)

good_append : {e m : ℕ} {xs ys : List Row} → Chain e m xs → Chain e e ys → good_rows xs ≡ true → good_rows ys ≡ true → good_rows (xs ++ ys) ≡ true
unfolding good_rows
good_append end d f g = g
good_append {ys = ys} (link {r = r} {rs = rs} l u c) d f g =
    let z = and_true (good_row r rs) (good_rows rs) f in
    and_intro (good_row r (rs ++ ys)) (good_rows (rs ++ ys)) (row_behind r rs l d ∙ z.0) (good_append c d z.1 g)

-- ---- where a row stands in the text

-- a row's default is written there, at the position that the row keeps
pub record Written (t : List ℕ) (r : Row) : Type 0 where
  pub within : r.size < length t
  pub is : r.default ≡ written_at t r.size

pub record Placed (t : List ℕ) (r : Row) : Type 0 where
  pub position : r.position < length t
  pub default : is_empty r.default ≡ false → Written t r

-- a row without a default
pub plain_placed : {t : List ℕ} (r : Row) → r.default ≡ [] → r.position < length t → Placed t r
unfolding is_empty
plain_placed r d p = record { position = p; default = λ h. never (sym h ∙ ap is_empty d) }

-- ---- trees of depth e, whose first rows are of kinds that pass a test; the rows stand in t

pub record Rows (t : List ℕ) (e : ℕ) (test : Kind → Bool) (rs : List Row) : Type 0 where
  pub chain : Chain e e rs
  pub good : good_rows rs ≡ true
  pub tops : every test (kinds_at e rs) ≡ true
  pub placed : All (Placed t) rs

module _ {t : List ℕ} {e : ℕ} {test : Kind → Bool} where
  pub rows_none : Rows t e test []
  unfolding good_rows kinds_at every
  rows_none = record { chain = end; good = refl; tops = refl; placed = nil }

  pub rows_append : {xs ys : List Row} → Rows t e test xs → Rows t e test ys → Rows t e test (xs ++ ys)
  rows_append {xs} {ys} a b = record {
    chain = chain_append (omega arith) a.chain b.chain;
    good = good_append a.chain b.chain a.good b.good;
    tops = rw (kinds_append e xs ys) (every_both test (kinds_at e xs) (kinds_at e ys) a.tops b.tops);
    placed = all_append a.placed b.placed;
  }

-- a weaker test
pub rows_weaken : {t : List ℕ} {e : ℕ} {test other : Kind → Bool} {rs : List Row} → ((k : Kind) → test k ≡ true → other k ≡ true) → Rows t e test rs → Rows t e other rs
unfolding every
rows_weaken {e = e} {test = test} {other = other} {rs = rs} h a = record { chain = a.chain; good = a.good; tops = go (kinds_at e rs) a.tops; placed = a.placed }
  where
    go : (ks : List Kind) → every test ks ≡ true → every other ks ≡ true
    go [] f = refl
    go (k ∷ ks) f =
        let z = and_true (test k) (every test ks) f in
        and_intro (other k) (every other ks) (h k z.0) (go ks z.1)

-- another test of one tree
pub rows_retop : {t : List ℕ} {e : ℕ} {test : Kind → Bool} (other : Kind → Bool) {k : Kind} {rs : List Row} → Rows t e test rs → kinds_at e rs ≡ k ∷ [] → other k ≡ true → Rows t e other rs
unfolding every
rows_retop other a e h = record { chain = a.chain; good = a.good; tops = rw (e, h); placed = a.placed }

-- one tree
pub rows_tree : {t : List ℕ} {e : ℕ} {test below : Kind → Bool} (r : Row) {kids : List Row} → r.depth ≡ e → test r.kind ≡ true → Placed t r
    → good_row r kids ≡ true → Rows t (e + 1) below kids → Rows t e test (r ∷ kids)
unfolding good_rows kinds_at every
rows_tree {e = e} r {kids = kids} d k p g b = record {
  chain = link {m = e} {r = r} (omega arith) (omega arith) (chain_fit b.chain (omega arith) (omega arith));
  good = and_intro (good_row r kids) (good_rows kids) g b.good;
  tops = rw (eq-eqb r.depth e d, kinds_deep {d = e} (omega arith) b.chain, k);
  placed = cons p b.placed;
}

-- a row of such trees: how deep it is, and its kind if it is a first one
pub record Top (e : ℕ) (test : Kind → Bool) (r : Row) : Type 0 where
  pub deep : e ≤ r.depth
  pub top : r.depth ≡ e → test r.kind ≡ true

chain_tops : {e m : ℕ} (test : Kind → Bool) {rs : List Row} → Chain e m rs → every test (kinds_at e rs) ≡ true → All (Top e test) rs
unfolding every kinds_at
chain_tops test end f = nil
chain_tops {e = e} test (link {r = r} {rs = rs} l u c) f = go (eqb r.depth e) refl f (λ g. chain_tops test c g)
  where
    go : (b : Bool) → eqb r.depth e ≡ b → every test (cond b (r.kind ∷ kinds_at e rs) (kinds_at e rs)) ≡ true
        → (every test (kinds_at e rs) ≡ true → All (Top e test) rs) → All (Top e test) (r ∷ rs)
    go true q g h = let z = and_true (test r.kind) (every test (kinds_at e rs)) g in cons (record { deep = l; top = λ x. z.0 }) (h z.1)
    go false q g h = cons (record { deep = l; top = λ x. absurd (eqb-false r.depth e q x) }) (h g)

pub rows_tops : {t : List ℕ} {e : ℕ} {test : Kind → Bool} {rs : List Row} → Rows t e test rs → All (Top e test) rs
rows_tops {test = test} a = chain_tops test a.chain a.tops

-- one tree of depth 0 whose first row is a schema
pub declaration : (r : Row) (kids : List Row) → r.depth ≡ 0 → is_schema r.kind ≡ true → Chain 1 1 kids → good_rows (r ∷ kids) ≡ true → is_declaration (r ∷ kids) ≡ true
unfolding is_declaration
declaration r kids d k c g = rw (eq-eqb r.depth 0 d, k, chain_climbs 0 (chain_fit c (omega arith) (omega arith)), g)
