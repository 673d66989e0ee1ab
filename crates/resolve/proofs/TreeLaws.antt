-- The turns of the walks over the rows under a row, over plain values.
-- Assumes nothing.
use mathlib.Core.Path.{◌≡◌, refl, sym, ap, ◌∙◌}
use mathlib.Core.Bool.{Bool, true, false, cond, not, ◌&&◌, ◌||◌, and-false}
use mathlib.Core.List.{List, [], ◌∷◌}
use Prim.Native.Nat.{ℕ, zero, suc, ◌+◌, ◌-◌, ◌<◌, ◌≤◌}
use native.Mathlib.Decide.{dec_le}
use native.Mathlib.Nat.{add-zero}
use native.Mathlib.Numerals.{add-one}
use native.Mathlib.Omega.{arith}
use lib.Dec.{eqb, eqb-suc-zero}
use lib.ListN.{length}
use borrow.Author.Tests.{lt-ltb, le-ltb, le-leb, lt-leb, eq-eqb, ne_eqb}
use Rattle.name.specs.Name.{every}
use Rattle.row.specs.Rows.{Row}
use Rattle.row.specs.Sets.{rows_from}
use Rattle.row.specs.Memory.{entry_at, row_at}
use Rattle.row.specs.declared.kind.Kind.{Kind}
use Rattle.row.specs.declared.kind.Kind.TheVariants.{Union, Record, Enum}
use Rattle.resolve.specs.Kinds.{is_kind, is_schema, is_part_of, past, body_fits, parts_fit}
use Rattle.resolve.specs.Rules.{under, kinds_at, takes_name, same_symbol, same_member, clash, some, no_two, good_parts, no_clash, good_row, good_rows, climbs, is_declaration}
use Rattle.resolve.specs.Steps.{is_leading, may_end, left_fit, is_ruled}
use Rattle.resolve.proofs.MemoryLaws.{rows_none, rows_cons, rows_next, rows_end}

-- ---- the rows under a row, one after the other

-- the rows of m from j on and before `end`, as far as they are deeper than d
pub below : List ℕ → ℕ → ℕ → ℕ → List Row
below m end d j = under d (rows_from m (end - j) j)

module _ (m : List ℕ) (end d j : ℕ) where
  pub below_next : j < end → d < (row_at m j).depth → below m end d j ≡ row_at m j ∷ below m end d (j + 1)
  unfolding below under
  below_next l h = rw (rows_next m j end l, lt-ltb d (row_at m j).depth h)

  pub below_stop : j < end → (row_at m j).depth ≤ d → below m end d j ≡ []
  unfolding below under
  below_stop l h = rw (rows_next m j end l, le-ltb d (row_at m j).depth h)

  pub below_end : end ≤ j → below m end d j ≡ []
  unfolding below under
  below_end l = rw (rows_end m j end l)

-- ---- the kinds of its parts

left_start : (kind : Kind) (ks : List Kind) → left_fit kind 0 ks ≡ parts_fit kind ks
unfolding left_fit
left_start kind ks = refl

left_end : (kind : Kind) (n : ℕ) → left_fit kind n [] ≡ may_end kind n
unfolding left_fit may_end parts_fit body_fits past every
left_end kind zero = refl
left_end kind (suc n) = rw add-zero

left_alias : (kind : Kind) (n : ℕ) (k : Kind) (ks : List Kind) → is_leading kind n k ≡ true → left_fit kind n (k ∷ ks) ≡ left_fit kind n ks
unfolding left_fit is_leading parts_fit past
left_alias kind zero k ks e = rw e
left_alias kind (suc n) k ks e = let z : false ≡ true = rw (eqb-suc-zero n) at e in cc

left_wrong : (kind : Kind) (n : ℕ) (k : Kind) (ks : List Kind) → is_leading kind n k ≡ false → is_part_of kind k ≡ false → left_fit kind n (k ∷ ks) ≡ false
unfolding left_fit is_leading parts_fit past body_fits every
left_wrong kind zero k ks e f = rw (e, f)
left_wrong kind (suc n) k ks e f = rw f

left_part : (kind : Kind) (n : ℕ) (k : Kind) (ks : List Kind) → is_leading kind n k ≡ false → is_part_of kind k ≡ true → left_fit kind n (k ∷ ks) ≡ left_fit kind (n + 1) ks
unfolding left_fit is_leading parts_fit past body_fits every
left_part kind zero k ks e f = let g : 1 + length ks ≡ suc (length ks) = omega arith in rw (e, f, g)
left_part kind (suc n) k ks e f =
    let g : suc n + suc (length ks) ≡ suc (suc n) + length ks = omega arith in
    rw (f, g, add-one)

-- what is left of a walk over them: n parts have passed
module _ (m : List ℕ) (end : ℕ) (kind : Kind) (d n j : ℕ) (x : Bool) (inv : x ≡ left_fit kind n (kinds_at (d + 1) (below m end d j))) where
  pub parts_end : end ≤ j → may_end kind n ≡ x
  unfolding kinds_at
  parts_end l = sym (inv ∙ rw (below_end m end d j l) (left_end kind n))

  module _ (l : j < end) (y : ℕ) (e : y ≡ (entry_at m j).depth) where
    pub parts_stop : y ≤ d → may_end kind n ≡ x
    unfolding kinds_at
    parts_stop h = sym (inv ∙ rw (below_stop m end d j l (rw e at h)) (left_end kind n))

    module _ (h : d < y) where
      pub parts_deeper : (y ≡ d + 1 → ⊥) → (n' : ℕ) → n' ≡ n → x ≡ left_fit kind n' (kinds_at (d + 1) (below m end d (j + 1)))
      unfolding kinds_at
      parts_deeper g n' q = inv ∙ rw (below_next m end d j l (rw e at h), ne_eqb (row_at m j).depth (d + 1) (λ z. g (e ∙ z)), q)

      module _ (g : y ≡ d + 1) (k : Kind) (f : k ≡ (entry_at m j).kind) where
        here : kinds_at (d + 1) (below m end d j) ≡ k ∷ kinds_at (d + 1) (below m end d (j + 1))
        unfolding kinds_at
        here = rw (below_next m end d j l (rw e at h), eq-eqb (row_at m j).depth (d + 1) (sym e ∙ g), ← f)

        pub parts_alias : is_leading kind n k ≡ true → (n' : ℕ) → n' ≡ n → x ≡ left_fit kind n' (kinds_at (d + 1) (below m end d (j + 1)))
        parts_alias t n' q = rw q (inv ∙ ap (left_fit kind n) here ∙ left_alias kind n k _ t)

        module _ (t : is_leading kind n k ≡ false) where
          pub parts_wrong : is_part_of kind k ≡ false → false ≡ x
          parts_wrong u = sym (inv ∙ ap (left_fit kind n) here ∙ left_wrong kind n k _ t u)

          pub parts_part : is_part_of kind k ≡ true → (n' : ℕ) → n' ≡ n + 1 → x ≡ left_fit kind n' (kinds_at (d + 1) (below m end d (j + 1)))
          parts_part u n' q = rw q (inv ∙ ap (left_fit kind n) here ∙ left_part kind n k _ t u)

pub parts_start : (m : List ℕ) (end i : ℕ) (kind : Kind) (d : ℕ) → kind ≡ (entry_at m i).kind → d ≡ (entry_at m i).depth
    → good_parts (row_at m i) (rows_from m (end - (i + 1)) (i + 1)) ≡ left_fit kind 0 (kinds_at (d + 1) (below m end d (i + 1)))
unfolding good_parts below
parts_start m end i kind d p q = rw (p, q) (sym (left_start (row_at m i).kind _))

-- ---- no two rows that clash

pub some_none : (test : Row → Bool) (rows : List Row) → ((r : Row) → test r ≡ false) → some test rows ≡ false
unfolding some
some_none test [] h = refl
some_none test (r ∷ rows) h = rw (h r) (some_none test rows h)

pub two_start : (m : List ℕ) (end i : ℕ) (kind : Kind) (d : ℕ) → kind ≡ (entry_at m i).kind → d ≡ (entry_at m i).depth
    → no_clash (row_at m i) (rows_from m (end - (i + 1)) (i + 1)) ≡ no_two (clash kind d) (below m end d (i + 1))
unfolding no_clash below
two_start m end i kind d p q = rw (p, q)

-- kinds that no rule is asked of
rule_none : (kind : Kind) (d : ℕ) (a b : Row) → is_ruled kind ≡ false → clash kind d a b ≡ false
unfolding is_ruled clash
rule_none kind d a b e = go (is_kind Record kind) (is_kind Enum kind) (is_kind Union kind) e
  where
    go : (r s u : Bool) → (r || s || u) ≡ false → cond r (takes_name d a b) (cond s (same_symbol d a b) (cond u (same_member d a b) false)) ≡ false
    go true s u e = cc
    go false true u e = cc
    go false false true e = cc
    go false false false e = refl

rules_none : (kind : Kind) (d : ℕ) (rows : List Row) → is_ruled kind ≡ false → no_two (clash kind d) rows ≡ true
unfolding no_two
rules_none kind d [] e = refl
rules_none kind d (r ∷ rows) e = rw (some_none (clash kind d r) rows (λ b. rule_none kind d r b e)) (rules_none kind d rows e)

pub unruled : (m : List ℕ) (end i : ℕ) (kind : Kind) → kind ≡ (entry_at m i).kind → is_ruled kind ≡ false → true ≡ no_clash (row_at m i) (rows_from m (end - (i + 1)) (i + 1))
unfolding no_clash
unruled m end i kind p e = sym (rules_none (row_at m i).kind (row_at m i).depth _ (rw p at e))

-- ---- the rows of a declaration

module _ (m : List ℕ) (end d j : ℕ) (x : Bool) (inv : x ≡ climbs d (rows_from m (end - j) j)) where
  pub climb_end : end ≤ j → true ≡ x
  unfolding climbs
  climb_end l = sym (inv ∙ rw (rows_end m j end l))

  module _ (l : j < end) (y : ℕ) (e : y ≡ (entry_at m j).depth) where
    climb_top : y ≡ 0 → false ≡ x
    unfolding climbs
    climb_top h = let z : (row_at m j).depth ≡ 0 = sym e ∙ h in sym (inv ∙ rw (rows_next m j end l, z))

    climb_far : d + 1 < y → false ≡ x
    unfolding climbs
    climb_far h = sym (inv ∙ rw (rows_next m j end l, lt-leb (row_at m j).depth (d + 1) (rw e at h), and-false))

    pub climb_bad : (y ≤ d + 1 → y ≡ 0) → false ≡ x
    climb_bad h = elim (dec_le y (d + 1)) [ yes k ↦ climb_top (h k) | no k ↦ climb_far (omega arith) ]

    pub climb_more : (y ≡ 0 → ⊥) → y ≤ d + 1 → x ≡ climbs y (rows_from m (end - (j + 1)) (j + 1))
    unfolding climbs
    climb_more g h =
        let k : 1 ≤ y = omega arith in
        inv ∙ rw (rows_next m j end l, ← e, le-leb 1 y k, le-leb y (d + 1) h)

module _ (m : List ℕ) (end j : ℕ) (x : Bool) (inv : x ≡ good_rows (rows_from m (end - j) j)) where
  pub good_end : end ≤ j → true ≡ x
  unfolding good_rows
  good_end l = sym (inv ∙ rw (rows_end m j end l))

  pub good_bad : j < end → good_row (row_at m j) (rows_from m (end - (j + 1)) (j + 1)) ≡ false → false ≡ x
  unfolding good_rows
  good_bad l e = sym (inv ∙ rw (rows_next m j end l, e))

  pub good_more : j < end → good_row (row_at m j) (rows_from m (end - (j + 1)) (j + 1)) ≡ true → x ≡ good_rows (rows_from m (end - (j + 1)) (j + 1))
  unfolding good_rows
  good_more l e = inv ∙ rw (rows_next m j end l, e)

-- a declaration's tests, one after the other
pub declaration_is : (m : List ℕ) (s n y : ℕ) (k : Kind) → y ≡ (entry_at m s).depth → k ≡ (entry_at m s).kind
    → not (eqb n 0) && eqb y 0 && is_schema k && climbs 0 (rows_from m (s + n - (s + 1)) (s + 1)) && good_rows (rows_from m (s + n - s) s) ≡ is_declaration (rows_from m n s)
unfolding is_declaration
declaration_is m s zero y k e f = rw (rows_none m s)
declaration_is m s (suc n) y k e f =
    let a : s + suc n - (s + 1) ≡ n = omega arith in
    let b : s + suc n - s ≡ suc n = omega arith in
    rw (a, b, rows_cons m n s, eqb-suc-zero n, e, f)
