-- No row has more rows above it than there are: more fuel than rows changes nothing.
-- Assumes nothing.
use mathlib.Core.Path.{◌≡◌, refl, ap, ap₂, ◌∙◌}
use mathlib.Core.Bool.{Bool, true, false, cond, ◌&&◌}
use mathlib.Core.List.{List, [], ◌∷◌, ◌++◌, map}
use Prim.Native.Nat.{ℕ, zero, suc, ◌+◌, ◌-◌, ◌≤◌}
use native.Mathlib.Omega.{arith}
use lib.Dec.{eqb, ltb}
use lib.ListN.{length}
use Rattle.row.specs.Rows.{Row}
use Rattle.resolve.specs.Rules.{under}
use Rattle.canonical.specs.Pieces.{opening, closing}
use Rattle.canonical.specs.Canonical.{is_written, starts_at, parts_of, listed, text_of, canonical_of}

under_length : (d : ℕ) (rows : List Row) → length (under d rows) ≤ length rows
unfolding under
under_length d [] = omega arith
under_length d (r ∷ rows) = go (ltb d r.depth) (under_length d rows)
  where
    go : (x : Bool) → length (under d rows) ≤ length rows → length (cond x (r ∷ under d rows) []) ≤ suc (length rows)
    go true h = omega arith
    go false h = omega arith

-- two functions that agree on lists of at most k rows agree on the parts of such a list
starts_alike : (f g : List Row → List ℕ) (k d : ℕ) → ((xs : List Row) → length xs ≤ k → f xs ≡ g xs) → (rows : List Row) → length rows ≤ k → map f (starts_at d rows) ≡ map g (starts_at d rows)
unfolding starts_at
starts_alike f g k d h [] l = refl
starts_alike f g k d h (r ∷ rows) l = go (eqb r.depth d && is_written r.kind) (starts_alike f g k d h rows (omega arith))
  where
    go : (x : Bool) → map f (starts_at d rows) ≡ map g (starts_at d rows) → map f (cond x ((r ∷ rows) ∷ starts_at d rows) (starts_at d rows)) ≡ map g (cond x ((r ∷ rows) ∷ starts_at d rows) (starts_at d rows))
    go true e = ap₂ (λ (a : List ℕ) (b : List (List ℕ)). a ∷ b) (h (r ∷ rows) l) e
    go false e = e

more_fuel : (n : ℕ) (rows : List Row) → length rows ≤ n → text_of (suc n) rows ≡ text_of n rows
unfolding text_of parts_of
more_fuel zero [] h = refl
more_fuel zero (r ∷ rows) h = absurd (omega arith)
more_fuel (suc n) [] h = refl
more_fuel (suc n) (r ∷ rows) h =
    let d = r.depth in
    let e = starts_alike (text_of (suc n)) (text_of n) n (d + 1) (λ xs l. more_fuel n xs l) (under d rows) (omega (arith, under_length d rows)) in
    ap (λ (ps : List (List ℕ)). opening r.kind r.text r.size ++ (listed ps ++ closing r.kind)) e

-- ENOUGH FUEL
pub enough : (n : ℕ) (rows : List Row) → length rows ≤ n → text_of n rows ≡ canonical_of rows
unfolding canonical_of
enough n rows h = let k : n ≡ n - length rows + length rows = omega arith in ap (λ (i : ℕ). text_of i rows) k ∙ go (n - length rows)
  where
    go : (j : ℕ) → text_of (j + length rows) rows ≡ text_of (length rows) rows
    go zero = let e : 0 + length rows ≡ length rows = omega arith in rw e
    go (suc j) = let e : suc j + length rows ≡ suc (j + length rows) = omega arith in rw e (more_fuel (j + length rows) rows (omega arith) ∙ go j)
