-- The first rows of a set, then rows of another memory: what the chains of their definitions answer.
-- Assumes nothing.
use mathlib.Core.Path.{◌≡◌, refl, sym, ap, subst, ◌∙◌}
use mathlib.Core.Bool.{Bool, true, false, cond, ◌||◌, or-false}
use mathlib.Core.List.{List, [], ◌∷◌, ◌++◌, append-nil, append_assoc}
use Prim.Native.Nat.{ℕ, zero, suc, ◌+◌, ◌-◌, ◌<◌, ◌≤◌}
use native.Mathlib.Nat.{add-zero}
use native.Mathlib.Omega.{arith}
use lib.ListN.{get_or, set, length-set}
use borrow.Author.Tests.{lt-ltb, le-ltb}
use Rattle.ground.specs.Bytes.{same}
use Rattle.ground.proofs.Laws.{and_true, same_true}
use Rattle.chains.specs.Chains.{slots, slot_of, on_chain, any_below}
use Rattle.chains.specs.Marks.{mark_of}
use Rattle.chains.proofs.Laws.{slot_below, keeps_none, keeps_past, keeps_more, chain_any}
use Rattle.row.specs.Rows.{Row}
use Rattle.row.specs.Sets.{rows_from}
use Rattle.row.specs.Memory.{row_at}
use Rattle.resolve.specs.Kinds.{is_definition}
use Rattle.resolve.specs.Rules.{some}
use Rattle.resolve.specs.Resolve.{defines, is_defined}
use Rattle.resolve.specs.Steps.{Sized, in_line, defines_at, slot_at, is_named_at, KeepsNames, first_with, next_with}
use Rattle.resolve.proofs.MemoryLaws.{rows_none, rows_snoc}
use Rattle.resolve.proofs.ResolveLaws.{defined_append}

module _ (one : List ℕ) (earlier : ℕ) (other : List ℕ) (start : ℕ) where
  -- ---- which row a number is

  pub line_first : (a : ℕ) → a < earlier → in_line one earlier other start a ≡ row_at one a
  unfolding in_line
  line_first a l = rw (lt-ltb a earlier l)

  pub line_then : (n : ℕ) → in_line one earlier other start (earlier + n) ≡ row_at other (start + n)
  unfolding in_line
  line_then n = let e : earlier + n - earlier ≡ n = omega arith in rw (le-ltb (earlier + n) earlier (omega arith), e)

  -- ---- what is defined by them

  module _ (name : List ℕ) where
    defined_one : (rows : List Row) (r : Row) → is_defined (rows ++ (r ∷ [])) name ≡ (is_defined rows name || defines name r)
    unfolding is_defined some
    defined_one rows r = defined_append rows (r ∷ []) name ∙ rw or-false

    any_first : (n : ℕ) → n ≤ earlier → any_below (is_named_at one earlier other start name) n ≡ is_defined (rows_from one n 0) name
    unfolding any_below is_named_at is_defined some
    any_first zero l = rw rows_none
    any_first (suc n) l =
        let e : suc n ≡ n + 1 = omega arith in
        let f : 0 + n ≡ n = omega arith in
        rw (any_first n (omega arith), line_first n (omega arith)) (sym (rw (e, rows_snoc one 0 n, f) (defined_one (rows_from one n 0) (row_at one n))))

    any_next : (n : ℕ) → any_below (is_named_at one earlier other start name) (suc (earlier + n)) ≡ (any_below (is_named_at one earlier other start name) (earlier + n) || defines name (row_at other (start + n)))
    unfolding any_below is_named_at
    any_next n = rw (line_then n)

    any_line : (n : ℕ) → any_below (is_named_at one earlier other start name) (earlier + n) ≡ is_defined (rows_from one earlier 0 ++ rows_from other n start) name
    any_line zero = let e : earlier + 0 ≡ earlier = omega arith in rw (e, rows_none, append-nil) (any_first earlier (omega arith))
    any_line (suc n) =
        let e : earlier + suc n ≡ suc (earlier + n) = omega arith in
        let f : suc n ≡ n + 1 = omega arith in
        let r = row_at other (start + n) in
        let rows = rows_from one earlier 0 ++ rows_from other n start in
        let g : is_defined (rows_from one earlier 0 ++ rows_from other (suc n) start) name ≡ (is_defined rows name || defines name r) =
        rw (f, rows_snoc other start n, ← append_assoc) (defined_one rows r) in
        ap (any_below (is_named_at one earlier other start name)) e ∙ any_next n ∙ ap (λ (z : Bool). z || defines name r) (any_line n) ∙ sym g

    named_in : (n a : ℕ) → a < n → is_named_at one earlier other start name a ≡ true → (defines_at one earlier other start a ≡ true) × (slot_at one earlier other start a ≡ slot_of (mark_of name) 0)
    unfolding is_named_at defines_at slot_at defines
    named_in n a l e =
        let r = in_line one earlier other start a in
        let p = and_true (is_definition r.kind) (same r.text name) e in
        (p.0, ap (λ (x : List ℕ). slot_of (mark_of x) 0) (same_true r.text name p.1))

    pub chain_defined : {first next : List ℕ} (n : ℕ) → KeepsNames one earlier other start first next (earlier + n)
        → {r : Bool} → r ≡ on_chain (is_named_at one earlier other start name) next (earlier + n) (get_or first (slot_of (mark_of name) 0) 0)
        → r ≡ is_defined (rows_from one earlier 0 ++ rows_from other n start) name
    chain_defined n k e = e ∙ chain_any k (is_named_at one earlier other start name) (slot_of (mark_of name) 0) (named_in (earlier + n)) ∙ any_line n

  -- ---- the tables

  -- row r, which is number a of them
  pub line_more : {first next : List ℕ} {a : ℕ} → KeepsNames one earlier other start first next a → Sized first next → a < slots → {r : Row} → in_line one earlier other start a ≡ r
      → {first' next' : List ℕ} → first' ≡ first_with r a first → next' ≡ next_with r a first next → KeepsNames one earlier other start first' next' (a + 1)
  unfolding first_with next_with defines_at slot_at
  line_more {first} {next} {a} k z l {r} e f g = rw (f, g) (go (is_definition r.kind) refl)
    where
      go : (x : Bool) → is_definition r.kind ≡ x → KeepsNames one earlier other start (cond (is_definition r.kind) (set first (slot_of (mark_of r.text) 0) (a + 1)) first) (cond (is_definition r.kind) (set next a (get_or first (slot_of (mark_of r.text) 0) 0)) next) (a + 1)
      go true p = rw (p, ← e) (keeps_more k (let b = slot_below (mark_of (in_line one earlier other start a).text) 0 in let y = z.firsts in omega arith) (let y = z.nexts in omega arith))
      go false p = rw p (keeps_past k (rw e p))

pub sized_with : {first next : List ℕ} (r : Row) (a : ℕ) → Sized first next → {first' next' : List ℕ} → first' ≡ first_with r a first → next' ≡ next_with r a first next → Sized first' next'
unfolding first_with next_with
sized_with {first} {next} r a z e f = rw (e, f) (go (is_definition r.kind))
  where
    go : (x : Bool) → Sized (cond x (set first (slot_of (mark_of r.text) 0) (a + 1)) first) (cond x (set next a (get_or first (slot_of (mark_of r.text) 0) 0)) next)
    go true = record { firsts = simp length-set z.firsts; nexts = simp length-set z.nexts }
    go false = z

-- no number is below 0
pub line_none : (one : List ℕ) (earlier : ℕ) (other : List ℕ) (start : ℕ) (first next : List ℕ) → KeepsNames one earlier other start first next 0
line_none one earlier other start first next = keeps_none first next 0 (λ a l. absurd (omega arith))

-- all of the first rows
pub line_all : (one : List ℕ) (n : ℕ) {first next : List ℕ} {a : ℕ} → KeepsNames one n one 0 first next a → a ≤ n → n ≤ a → KeepsNames one n one 0 first next n
line_all one n {first} {next} {a} k l h = let e : n ≡ a = omega arith in subst (λ (z : ℕ). KeepsNames one n one 0 first next z) (sym e) k

-- the first rows, whatever comes behind them
module _ (one : List ℕ) (n : ℕ) (other : List ℕ) (start : ℕ) where
  line_other : {first next : List ℕ} → KeepsNames one n one 0 first next n → KeepsNames one n other start first next n
  unfolding defines_at slot_at
  line_other k = record { keeps = λ a l i t e. rw (row_same a l) (k.keeps a l (rw (← row_same a l) i) t e) }
    where
      row_same : (a : ℕ) → a < n → in_line one n other start a ≡ in_line one n one 0 a
      row_same a l = line_first one n other start a l ∙ sym (line_first one n one 0 a l)

  -- then none of the others, and one of them after the other
  pub line_begin : {first next : List ℕ} → KeepsNames one n one 0 first next n → KeepsNames one n other start first next (n + 0)
  line_begin k = rw (add-zero n) (line_other k)

  pub line_next : {first next : List ℕ} (i : ℕ) → KeepsNames one n other start first next (n + i) → Sized first next → n + i < slots
      → {first' next' : List ℕ} → first' ≡ first_with (row_at other (start + i)) (n + i) first → next' ≡ next_with (row_at other (start + i)) (n + i) first next → KeepsNames one n other start first' next' (n + (i + 1))
  line_next {first} {next} i k z l {first'} {next'} f g =
      let e : n + i + 1 ≡ n + (i + 1) = omega arith in
      subst (λ (x : ℕ). KeepsNames one n other start first' next' x) e (line_more one n other start k z l (line_then one n other start i) f g)
