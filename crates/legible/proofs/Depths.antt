-- The nesting of a declaration's canonical text by the depth of its deepest row.
-- Assumes nothing.
use mathlib.Core.Path.{◌≡◌, refl}
use mathlib.Core.Bool.{Bool, true, false, cond, ◌&&◌, ◌||◌}
use mathlib.Core.List.{List, [], ◌∷◌, map}
use Prim.Native.Nat.{ℕ, zero, suc, ◌+◌, ◌*◌, max, ◌≤◌}
use native.Mathlib.Omega.{arith}
use lib.Dec.{eqb, ltb}
use lib.ListN.{length}
use borrow.Author.Tests.{eqb-true}
use Rattle.ground.proofs.Laws.{and_true}
use Rattle.row.specs.Rows.{Row}
use Rattle.row.specs.declared.kind.Kind.{Kind}
use Rattle.row.specs.declared.kind.Kind.TheVariants.{Union, Record, Enum, Fixed}
use Rattle.resolve.specs.Kinds.{is_kind, has_one}
use Rattle.resolve.specs.Rules.{under}
use Rattle.canonical.specs.Canonical.{is_written, starts_at, parts_of}
use Rattle.legible.specs.Nesting.{brackets, most, nesting_of, nesting, deepest_row}

two_brackets : (k : Kind) → brackets k ≤ 2
unfolding brackets
two_brackets k = go (is_kind Record k || is_kind Enum k) (has_one k || is_kind Union k || is_kind Fixed k)
  where
    go : (x y : Bool) → cond x 2 (cond y 1 0) ≤ 2
    go true y = omega arith
    go false true = omega arith
    go false false = omega arith

deepest_under : (d : ℕ) (rows : List Row) → deepest_row (under d rows) ≤ deepest_row rows
unfolding deepest_row under most
deepest_under d [] = omega arith
deepest_under d (r ∷ rows) = go (ltb d r.depth) (deepest_under d rows)
  where
    go : (b : Bool) → deepest_row (under d rows) ≤ deepest_row rows → deepest_row (cond b (r ∷ under d rows) []) ≤ max r.depth (deepest_row rows)
    go true i = omega arith
    go false i = omega arith

-- with n rows under each other, none deeper than e
abbrev Bound : ℕ → ℕ → Type 0
Bound n e = (r : Row) (rows : List Row) → deepest_row (r ∷ rows) ≤ e → nesting_of n (r ∷ rows) + 2 * r.depth ≤ 2 * (e + 1)

starts_bound : (n d e : ℕ) → Bound n e → d ≤ e + 1 → (rows : List Row) → deepest_row rows ≤ e → most (map (nesting_of n) (starts_at d rows)) + 2 * d ≤ 2 * (e + 1)
unfolding starts_at deepest_row most
starts_bound n d e f h [] l = omega arith
starts_bound n d e f h (r ∷ rows) l = go (eqb r.depth d && is_written r.kind) refl (starts_bound n d e f h rows (omega arith))
  where
    go : (b : Bool) → eqb r.depth d && is_written r.kind ≡ b → most (map (nesting_of n) (starts_at d rows)) + 2 * d ≤ 2 * (e + 1)
        → most (map (nesting_of n) (cond b ((r ∷ rows) ∷ starts_at d rows) (starts_at d rows))) + 2 * d ≤ 2 * (e + 1)
    go true q i =
        let p = eqb-true r.depth d (and_true (eqb r.depth d) (is_written r.kind) q).0 in
        let g = f r rows l in
        omega arith
    go false q i = i

row_bound : (n e : ℕ) → Bound n e
unfolding nesting_of parts_of deepest_row most
row_bound zero e r rows l = omega arith
row_bound (suc n) e r rows l =
    let g = deepest_under r.depth rows in
    let h = starts_bound n (r.depth + 1) e (row_bound n e) (omega arith) (under r.depth rows) (omega arith) in
    let b = two_brackets r.kind in
    omega arith

pub nesting_depth : (rows : List Row) → nesting rows ≤ 2 * (deepest_row rows + 1)
unfolding nesting nesting_of
nesting_depth [] = omega arith
nesting_depth (r ∷ rows) = let h = row_bound (suc (length rows)) (deepest_row (r ∷ rows)) r rows (omega arith) in omega arith
