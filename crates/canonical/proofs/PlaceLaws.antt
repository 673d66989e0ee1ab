-- The first place with some fingerprint bytes: what it is, and the search for it from a place on.
-- Assumes nothing.
use mathlib.Core.Path.{◌≡◌, refl, sym, ap, ◌∙◌}
use mathlib.Core.Bool.{Bool, true, false, cond}
use mathlib.Core.List.{List, [], ◌∷◌}
use Prim.Native.Nat.{ℕ, zero, suc, ◌+◌, ◌<◌, ◌≤◌}
use native.Mathlib.Omega.{arith}
use lib.ListN.{length, drop, length-drop}
use lib.Seq.{drop-cons}
use lib.IntN.{ℤ}
use Rattle.ground.specs.Bytes.{same}
use Rattle.rabin.specs.Rabin.{rabin_of, bytes_of}
use Rattle.row.specs.Rows.{Row}
use Rattle.canonical.specs.Canonical.{canonical_of}
use Rattle.canonical.specs.Calls.{rows_at}
use Rattle.canonical.specs.Places.{print_bytes, place_with}
use Rattle.canonical.proofs.CallLaws.{rows_get_d}

-- ---- what it is

-- no place behind the declarations
pub place_bound : (print : List ℕ) (ds : List (List Row)) → place_with print ds ≤ length ds
unfolding place_with
place_bound print [] = omega arith
place_bound print (d ∷ ds) = go (same print (print_bytes d)) (place_bound print ds)
  where
    go : (x : Bool) → place_with print ds ≤ length ds → cond x 0 (suc (place_with print ds)) ≤ suc (length ds)
    go true h = omega arith
    go false h = omega arith

-- where it is a place, the declaration there has the bytes
pub place_found : (print : List ℕ) (ds : List (List Row)) → place_with print ds < length ds → same print (print_bytes (rows_at ds (place_with print ds))) ≡ true
unfolding place_with rows_at
place_found print [] l = absurd (omega arith)
place_found print (d ∷ ds) l = go (same print (print_bytes d)) refl l (λ h. place_found print ds h)
  where
    go : (x : Bool) → same print (print_bytes d) ≡ x → cond x 0 (suc (place_with print ds)) < suc (length ds)
        → (place_with print ds < length ds → same print (print_bytes (rows_at ds (place_with print ds))) ≡ true)
        → same print (print_bytes (rows_at (d ∷ ds) (cond x 0 (suc (place_with print ds))))) ≡ true
    go true e l h = e
    go false e l h = h (omega arith)

-- no declaration before it has them
pub place_first : (print : List ℕ) (ds : List (List Row)) (k : ℕ) → k < place_with print ds → same print (print_bytes (rows_at ds k)) ≡ false
unfolding place_with rows_at
place_first print [] k l = absurd (omega arith)
place_first print (d ∷ ds) k l = go (same print (print_bytes d)) refl k l (λ j h. place_first print ds j h)
  where
    go : (x : Bool) → same print (print_bytes d) ≡ x → (k : ℕ) → k < cond x 0 (suc (place_with print ds))
        → ((j : ℕ) → j < place_with print ds → same print (print_bytes (rows_at ds j)) ≡ false)
        → same print (print_bytes (rows_at (d ∷ ds) k)) ≡ false
    go true e k l h = absurd (omega arith)
    go false e zero l h = e
    go false e (suc k) l h = h k (omega arith)

-- ---- one place

pub print_same : {x : ℤ} {bytes : List ℕ} {r : Bool} (print : List ℕ) (d : List Row) → x ≡ rabin_of (canonical_of d) → bytes ≡ bytes_of x → r ≡ same print bytes → r ≡ same print (print_bytes d)
unfolding print_bytes
print_same print d e f g = g ∙ ap (same print) (f ∙ ap bytes_of e)

-- ---- the search from a place on

module _ (print : List ℕ) (ds : List (List Row)) where
  pub search_start : place_with print ds ≡ 0 + place_with print (drop 0 ds)
  search_start = omega arith

  module _ (k : ℕ) (inv : place_with print ds ≡ k + place_with print (drop k ds)) where
    -- none is left
    pub search_end : length ds ≤ k → k ≡ place_with print ds
    search_end h = omega (arith, inv, place_bound print (drop k ds), length-drop k ds)

    module _ (l : k < length ds) where
      rest : drop k ds ≡ rows_at ds k ∷ drop (suc k) ds
      rest = drop-cons ds k [] l ∙ ap (λ (d : List Row). d ∷ drop (suc k) ds) (sym (rows_get_d ds k))

      left : place_with print (drop k ds) ≡ cond (same print (print_bytes (rows_at ds k))) 0 (suc (place_with print (drop (suc k) ds)))
      unfolding place_with
      left = ap (place_with print) rest

      pub search_hit : same print (print_bytes (rows_at ds k)) ≡ true → k ≡ place_with print ds
      search_hit e = let f : place_with print (drop k ds) ≡ 0 = left ∙ rw e in omega (arith, inv, f)

      pub search_next : same print (print_bytes (rows_at ds k)) ≡ false → place_with print ds ≡ k + 1 + place_with print (drop (k + 1) ds)
      search_next e =
          let f : place_with print (drop k ds) ≡ suc (place_with print (drop (suc k) ds)) = left ∙ rw e in
          let g : k + 1 ≡ suc k = omega arith in
          rw g (omega (arith, inv, f))
