-- Chains of rows: what two rows that clash have alike, and what the chains answer.
-- Assumes nothing.
use mathlib.Core.Path.{◌≡◌, refl, sym, ap, ◌∙◌}
use mathlib.Core.Bool.{Bool, true, false, not, cond, ◌&&◌, ◌||◌, and-false, or-false}
use mathlib.Core.List.{List, [], ◌∷◌, ◌++◌}
use Prim.Native.Nat.{ℕ, zero, suc, ◌+◌, ◌-◌, ◌<◌, ◌≤◌}
use native.Mathlib.Omega.{arith}
use lib.Dec.{eqb, ltb}
use lib.ListN.{length, get_or, set, length-set}
use borrow.Author.Tests.{lt-ltb, le-ltb, eqb-true}
use Rattle.ground.specs.Bytes.{same}
use Rattle.ground.proofs.Laws.{never, and_true, same_true}
use Rattle.chains.specs.Chains.{slots, slot_of, on_chain, any_below}
use Rattle.chains.specs.Marks.{mark_of}
use Rattle.chains.proofs.Laws.{keeps_none, keeps_past, keeps_more, chain_any}
use Rattle.row.specs.Kinds.{kind_number}
use Rattle.row.specs.Rows.{Row}
use Rattle.row.specs.Sets.{rows_from}
use Rattle.row.specs.Memory.{entry_at, row_at}
use Rattle.row.specs.declared.kind.Kind.{Kind}
use Rattle.row.specs.declared.kind.Kind.TheVariants.{Union, Record, Enum, Field, Symbol}
use Rattle.resolve.specs.Kinds.{is_kind, is_definition, is_named}
use Rattle.resolve.specs.Rules.{is_at, is_field_name, takes_name, same_symbol, same_schema, same_member, clash, some, no_two, no_clash}
use Rattle.resolve.specs.Steps.{may_meet, none_met, Sized, told_by_name, key_of, is_under, slot_under, meets_at, KeepsUnder}
use Rattle.resolve.proofs.MemoryLaws.{rows_none, rows_snoc}
use Rattle.resolve.proofs.ResolveLaws.{some_append}
use Rattle.resolve.proofs.TreeLaws.{below, below_next, below_stop, below_end, some_none, two_start}

-- ---- two rows that clash

-- have one key, and each may meet another
pub record Alike (kind : Kind) (d : ℕ) (a b : Row) : Type 0 where
  pub former : may_meet kind d a ≡ true
  pub latter : may_meet kind d b ≡ true
  pub key : key_of kind a ≡ key_of kind b

mark_alike : (a b : Row) → same a.text b.text ≡ true → mark_of a.text ≡ mark_of b.text
mark_alike a b e = ap mark_of (same_true a.text b.text e)

kind_alike : (a b : Kind) → is_kind a b ≡ true → kind_number a ≡ kind_number b
unfolding is_kind
kind_alike a b e = sym (eqb-true (kind_number b) (kind_number a) e)

named_alike : (a b : Kind) → kind_number a ≡ kind_number b → is_named a ≡ is_named b
unfolding is_named is_definition is_kind
named_alike a b e = rw e

module _ (kind : Kind) (d : ℕ) (a b : Row) where
  in_record : is_kind Record kind ≡ true → clash kind d a b ≡ true → Alike kind d a b
  unfolding clash takes_name may_meet is_field_name key_of told_by_name
  in_record r e =
      let p = and_true (is_field_name d a && is_at Field (d + 1) b) (same a.text b.text) (rw r at e) in
      let q = and_true (is_field_name d a) (is_at Field (d + 1) b) p.0 in
      record { former = rw r q.0; latter = rw (r, q.1); key = rw r (mark_alike a b p.1) }

  in_enum : is_kind Record kind ≡ false → is_kind Enum kind ≡ true → clash kind d a b ≡ true → Alike kind d a b
  unfolding clash same_symbol may_meet key_of told_by_name
  in_enum n r e =
      let p = and_true (is_at Symbol (d + 1) a && is_at Symbol (d + 1) b) (same a.text b.text) (rw (n, r) at e) in
      let q = and_true (is_at Symbol (d + 1) a) (is_at Symbol (d + 1) b) p.0 in
      record { former = rw (n, r) q.0; latter = rw (n, r) q.1; key = rw (n, r) (mark_alike a b p.1) }

  in_union : is_kind Record kind ≡ false → is_kind Enum kind ≡ false → is_kind Union kind ≡ true → clash kind d a b ≡ true → Alike kind d a b
  unfolding clash same_member same_schema may_meet key_of told_by_name
  in_union n m r e =
      let p = and_true (eqb a.depth (d + 1) && eqb b.depth (d + 1)) (same_schema a b) (rw (n, m, r) at e) in
      let q = and_true (eqb a.depth (d + 1)) (eqb b.depth (d + 1)) p.0 in
      record { former = rw (n, m) q.0; latter = rw (n, m) q.1; key = rw (n, m) (schemas (is_named a.kind) refl p.1) }
    where
      schemas : (x : Bool) → is_named a.kind ≡ x → same_schema a b ≡ true → cond (is_named a.kind) (mark_of a.text) (kind_number a.kind) ≡ cond (is_named b.kind) (mark_of b.text) (kind_number b.kind)
      schemas true f g = let h = and_true (is_named b.kind) (same a.text b.text) (rw f at g) in rw (f, h.0) (mark_alike a b h.1)
      schemas false f g =
          let h = kind_alike a.kind b.kind (rw f at g) in
          let k : is_named b.kind ≡ false = sym (named_alike a.kind b.kind h) ∙ f in
          rw (f, k) h

  pub alike : clash kind d a b ≡ true → Alike kind d a b
  unfolding clash
  alike e = go (is_kind Record kind) refl (is_kind Enum kind) refl (is_kind Union kind) refl
    where
      go : (r : Bool) → is_kind Record kind ≡ r → (s : Bool) → is_kind Enum kind ≡ s → (u : Bool) → is_kind Union kind ≡ u → Alike kind d a b
      go true r s f u g = in_record r e
      go false r true f u g = in_enum r f e
      go false r false f true g = in_union r f g e
      go false r false f false g = never (rw (r, f, g) at e)

-- ---- no row that clashes with an earlier one is no row that clashes with a later one

module _ (meet : Row → Row → Bool) where
  -- none of the rows meets one of the earlier ones
  free : List Row → List Row → Bool
  free earlier [] = true
  free earlier (b ∷ rows) = not (some (λ (a : Row). meet a b) earlier) && free earlier rows

  free_none : (rows : List Row) → free [] rows ≡ true
  unfolding free some
  free_none [] = refl
  free_none (b ∷ rows) = free_none rows

  free_more : (earlier : List Row) (r : Row) (rows : List Row) → free (earlier ++ (r ∷ [])) rows ≡ (free earlier rows && not (some (meet r) rows))
  unfolding free some
  free_more earlier r [] = refl
  free_more earlier r (b ∷ rows) =
      rw (some_append (λ (a : Row). meet a b) earlier (r ∷ []), free_more earlier r rows) (shuffle (some (λ (a : Row). meet a b) earlier) (meet r b) (free earlier rows) (some (meet r) rows))
    where
      shuffle : (s t f u : Bool) → (not (s || (t || false)) && (f && not u)) ≡ ((not s && f) && not (t || u))
      shuffle true t f u = refl
      shuffle false true true u = refl
      shuffle false true false u = refl
      shuffle false false f u = refl

  none_free : (earlier rows : List Row) → none_met meet earlier rows ≡ (free earlier rows && no_two meet rows)
  unfolding free none_met no_two
  none_free earlier [] = refl
  none_free earlier (b ∷ rows) =
      rw (none_free (earlier ++ (b ∷ [])) rows, free_more earlier b rows) (shuffle (some (λ (a : Row). meet a b) earlier) (free earlier rows) (some (meet b) rows) (no_two meet rows))
    where
      shuffle : (s f u t : Bool) → (not s && ((f && not u) && t)) ≡ ((not s && f) && (not u && t))
      shuffle true f u t = refl
      shuffle false true u t = refl
      shuffle false false u t = refl

  pub none_two : (rows : List Row) → no_two meet rows ≡ none_met meet [] rows
  none_two rows = sym (none_free [] rows ∙ rw (free_none rows))

-- ---- rows of memory by their numbers

-- those behind row i
module _ (m : List ℕ) (i : ℕ) (t : Row → Bool) where
  behind : ℕ → Bool
  behind a = ltb i a && t (row_at m a)

  any_low : (n : ℕ) → n ≤ i + 1 → any_below behind n ≡ false
  unfolding any_below behind
  any_low zero l = refl
  any_low (suc n) l = rw (any_low n (omega arith), le-ltb i n (omega arith))

  any_next : (n : ℕ) → any_below behind (suc (i + 1 + n)) ≡ (any_below behind (i + 1 + n) || t (row_at m (i + 1 + n)))
  unfolding any_below behind
  any_next n = rw (lt-ltb i (i + 1 + n) (omega arith))

  any_behind : (n : ℕ) → any_below behind (i + 1 + n) ≡ some t (rows_from m n (i + 1))
  unfolding some
  any_behind zero = let e : i + 1 + 0 ≡ i + 1 = omega arith in rw (e, any_low (i + 1) (omega arith), rows_none)
  any_behind (suc n) =
      let e : i + 1 + suc n ≡ suc (i + 1 + n) = omega arith in
      let f : suc n ≡ n + 1 = omega arith in
      let r = row_at m (i + 1 + n) in
      let g : some t (rows_from m (suc n) (i + 1)) ≡ (some t (rows_from m n (i + 1)) || t r) = rw (f, rows_snoc m (i + 1) n, some_append t (rows_from m n (i + 1)) (r ∷ []), or-false) in
      ap (any_below behind) e ∙ any_next n ∙ ap (λ (z : Bool). z || t r) (any_behind n) ∙ sym g

-- what a chain answers, for the rows behind row i and before row j
module _ (m : List ℕ) (kind : Kind) (d i j : ℕ) (first next : List ℕ) (k : KeepsUnder m kind d i first next j) (l : i < j) where
  meets_under : (a : ℕ) → a < j → meets_at m kind d i j a ≡ true → (is_under m kind d i a ≡ true) × (slot_under m kind i a ≡ slot_under m kind i j)
  unfolding meets_at is_under slot_under
  meets_under a z e =
      let p = and_true (ltb i a) (clash kind d (row_at m a) (row_at m j)) e in
      let q = alike kind d (row_at m a) (row_at m j) p.1 in
      (rw p.0 q.former, ap (λ (x : ℕ). slot_of x i) q.key)

  any_meets : any_below (meets_at m kind d i j) j ≡ some (λ (a : Row). clash kind d a (row_at m j)) (rows_from m (j - (i + 1)) (i + 1))
  unfolding meets_at behind
  any_meets =
      let e : i + 1 + (j - (i + 1)) ≡ j = omega arith in
      ap (any_below (meets_at m kind d i j)) (sym e) ∙ any_behind m i (λ (a : Row). clash kind d a (row_at m j)) (j - (i + 1))

  pub chain_meets : {s : ℕ} → s ≡ slot_under m kind i j → {r : Bool} → r ≡ on_chain (meets_at m kind d i j) next j (get_or first s 0)
      → r ≡ some (λ (a : Row). clash kind d a (row_at m j)) (rows_from m (j - (i + 1)) (i + 1))
  chain_meets f g = g ∙ rw f (chain_any k (meets_at m kind d i j) (slot_under m kind i j) meets_under) ∙ any_meets

-- along a chain
pub meets_is : (m : List ℕ) (kind : Kind) (d i j h : ℕ) → i + 1 < h → {x : Bool} → clash kind d (row_at m (h - 1)) (row_at m j) ≡ x → meets_at m kind d i j (h - 1) ≡ x
unfolding meets_at
meets_is m kind d i j h l e = rw (lt-ltb i (h - 1) (omega arith)) e

pub meets_low : (m : List ℕ) (kind : Kind) (d i j h : ℕ) → h ≤ i + 1 → (a : ℕ) → a < h → meets_at m kind d i j a ≡ false
unfolding meets_at
meets_low m kind d i j h l a z = rw (le-ltb i a (omega arith))

-- nothing is behind row i yet
under_low : (m : List ℕ) (kind : Kind) (d i a : ℕ) → a < i + 1 → is_under m kind d i a ≡ false
unfolding is_under
under_low m kind d i a l = rw (le-ltb i a (omega arith))

pub under_none : (m : List ℕ) (kind : Kind) (d i : ℕ) (first next : List ℕ) → KeepsUnder m kind d i first next (i + 1)
under_none m kind d i first next = keeps_none first next (i + 1) (λ a l. under_low m kind d i a l)

-- a row that may not meet another
pub under_past : (m : List ℕ) (kind : Kind) (d i j : ℕ) (first next : List ℕ) → KeepsUnder m kind d i first next j → may_meet kind d (row_at m j) ≡ false → KeepsUnder m kind d i first next (j + 1)
unfolding is_under
under_past m kind d i j first next k e = keeps_past k (rw (e, and-false))

-- one that is entered under its slot
pub under_more : (m : List ℕ) (kind : Kind) (d i j : ℕ) (first next : List ℕ) → KeepsUnder m kind d i first next j → Sized first next → j < slots
    → {s : ℕ} → s ≡ slot_under m kind i j → s < slots → {first' next' : List ℕ} → first' ≡ set first s (j + 1) → next' ≡ set next j (get_or first s 0) → KeepsUnder m kind d i first' next' (j + 1)
under_more m kind d i j first next k z l e p f g =
    rw (f, g, e) (keeps_more k (let q : slot_under m kind i j < slots = rw e at p in let y = z.firsts in omega arith) (let y = z.nexts in omega arith))

pub sized_more : {first next : List ℕ} → Sized first next → (a b x y : ℕ) → {first' next' : List ℕ} → first' ≡ set first a x → next' ≡ set next b y → Sized first' next'
sized_more z a b x y e f = record { firsts = ap length e ∙ simp length-set z.firsts; nexts = ap length f ∙ simp length-set z.nexts }

-- ---- the turns of no_clash

never_met : (kind : Kind) (d : ℕ) (b : Row) → may_meet kind d b ≡ false → (a : Row) → clash kind d a b ≡ false
never_met kind d b e a = go (clash kind d a b) refl
  where
    go : (x : Bool) → clash kind d a b ≡ x → x ≡ false
    go true f = never (sym e ∙ (alike kind d a b f).latter)
    go false f = refl

pub clash_start : (m : List ℕ) (end i : ℕ) (kind : Kind) (d : ℕ) → kind ≡ (entry_at m i).kind → d ≡ (entry_at m i).depth
    → no_clash (row_at m i) (rows_from m (end - (i + 1)) (i + 1)) ≡ none_met (clash kind d) (rows_from m (i + 1 - (i + 1)) (i + 1)) (below m end d (i + 1))
clash_start m end i kind d p q =
    let e : i + 1 - (i + 1) ≡ 0 = omega arith in
    rw (e, rows_none m (i + 1)) (two_start m end i kind d p q ∙ none_two (clash kind d) (below m end d (i + 1)))

module _ (m : List ℕ) (end i j : ℕ) (kind : Kind) (d : ℕ) (x : Bool) (inv : x ≡ none_met (clash kind d) (rows_from m (j - (i + 1)) (i + 1)) (below m end d j)) where
  pub clash_end : end ≤ j → true ≡ x
  unfolding none_met
  clash_end l = sym (inv ∙ rw (below_end m end d j l))

  module _ (l : j < end) (y : ℕ) (e : y ≡ (entry_at m j).depth) where
    pub clash_stop : y ≤ d → true ≡ x
    unfolding none_met
    clash_stop h = sym (inv ∙ rw (below_stop m end d j l (rw e at h)))

    module _ (h : d < y) {r : Bool} (f : r ≡ some (λ (a : Row). clash kind d a (row_at m j)) (rows_from m (j - (i + 1)) (i + 1))) where
      pub clash_hit : r ≡ true → false ≡ x
      unfolding none_met
      clash_hit t = sym (inv ∙ rw (below_next m end d j l (rw e at h), sym f ∙ t))

      pub clash_more : i < j → r ≡ false → x ≡ none_met (clash kind d) (rows_from m (j + 1 - (i + 1)) (i + 1)) (below m end d (j + 1))
      unfolding none_met
      clash_more k t =
          let a : j + 1 - (i + 1) ≡ j - (i + 1) + 1 = omega arith in
          let b : i + 1 + (j - (i + 1)) ≡ j = omega arith in
          inv ∙ rw (below_next m end d j l (rw e at h), sym f ∙ t, a, rows_snoc m (i + 1) (j - (i + 1)), b)

    pub clash_past : d < y → i < j → may_meet kind d (row_at m j) ≡ false → x ≡ none_met (clash kind d) (rows_from m (j + 1 - (i + 1)) (i + 1)) (below m end d (j + 1))
    clash_past h k t = clash_more h (sym (some_none (λ (a : Row). clash kind d a (row_at m j)) (rows_from m (j - (i + 1)) (i + 1)) (never_met kind d (row_at m j) t))) k refl
