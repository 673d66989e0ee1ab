-- The table of definitions: what it holds is asked, and a table that is true stays true.
-- Assumes nothing.
use mathlib.Core.Path.{◌≡◌, sym, ap, subst, ◌∙◌}
use mathlib.Core.List.{List}
use Prim.Native.Nat.{ℕ, suc, ◌+◌, ◌-◌}
use native.Mathlib.Omega.{arith}
use native.Mathlib.Decide.{ℕ_discrete}
use lib.ListN.{get_or, set, replicate}
use lib.Seq.{get_or-set_other}
use Rattle.row.specs.Sets.{rows_from}
use Rattle.row.specs.Memory.{text_at}
use Rattle.row.specs.Rows.{Row}
use Rattle.resolve.specs.Resolve.{definition_in}
use Rattle.fits.specs.Steps.{type_at, Found}
use Rattle.fits.proofs.TableLaws.{zeros, set_holds}

module _ (m : List ℕ) (n : ℕ) where
  -- what row i refers to
  abbrev meant : ℕ → List Row
  meant i = definition_in (text_at m i) (rows_from m n 0)

  -- a table of zeros says nothing
  pub found_zeros : (k : ℕ) → Found m n (replicate k 0)
  found_zeros k = record { says = λ i d h. let e : 0 ≡ suc d = sym (zeros k i) ∙ h in absurd (omega arith) }

  module _ {table : List ℕ} (known : Found m n table) (row : ℕ) where
    -- it is asked
    pub found_held : {v : ℕ} → v ≡ get_or table row 0 → (v ≡ 0 → ⊥) → type_at m n (v - 1) ≡ meant row
    found_held {v} e some = let f : v ≡ suc (v - 1) = omega arith in known.says row (v - 1) (sym e ∙ f)

    -- one more is noted
    found_set : (d : ℕ) → type_at m n d ≡ meant row → Found m n (set table row (d + 1))
    found_set d e = record { says = λ i g h. go i g h (ℕ_discrete i row) }
      where
        go : (i g : ℕ) → get_or (set table row (d + 1)) i 0 ≡ suc g → Dec (i ≡ row) → type_at m n g ≡ meant i
        go i g h (yes same) =
            let some : suc g ≡ 0 → ⊥ = λ (z : suc g ≡ 0). omega arith in
            let a : d + 1 ≡ suc g = set_holds table row (d + 1) (suc g) some (ap (λ (x : ℕ). get_or (set table row (d + 1)) x 0) (sym same) ∙ h) in
            let b : g ≡ d = omega arith in
            ap (type_at m n) b ∙ e ∙ ap meant (sym same)
        go i g h (no other) = known.says i g (sym (get_or-set_other table row i (d + 1) 0 other) ∙ h)

    pub found_noted : (d : ℕ) → type_at m n d ≡ meant row → {table' : List ℕ} → table' ≡ set table row (d + 1) → Found m n table'
    found_noted d e f = subst (λ (y : List ℕ). Found m n y) (sym f) (found_set d e)
