-- Defaults of rows one after the other: the answer for the rows that are left is the answer.
-- Assumes nothing.
use mathlib.Core.Path.{◌≡◌, refl, sym, ap, ◌∙◌}
use mathlib.Core.Bool.{Bool, true, false, ◌||◌}
use mathlib.Core.List.{List, [], ◌∷◌}
use Prim.Native.Nat.{ℕ, suc, ◌+◌, ◌-◌, ◌<◌, ◌≤◌}
use native.Mathlib.Omega.{arith}
use Rattle.std.specs.Prelude.{Ok, Err}
use Rattle.answer.specs.declared.refusal.Why.TheVariants.{DefaultDoesNotFit}
use Rattle.ground.proofs.Laws.{never}
use Rattle.json_scan.specs.Json.{deepest}
use Rattle.row.specs.Rows.{Row}
use Rattle.row.specs.Sets.{rows_from}
use Rattle.row.specs.Memory.{entry_at, row_at}
use Rattle.resolve.specs.Rules.{some}
use Rattle.resolve.specs.Resolve.{Resolution}
use Rattle.resolve.proofs.MemoryLaws.{rows_next, rows_end}
use Rattle.fits.specs.Types.{type_of, has_default}
use Rattle.fits.specs.Fits.{fits}
use Rattle.fits.specs.Misfits.{default_fits, misfit_in}
use Rattle.fits.specs.Steps.{type_at}

-- the n rows from `start` on are those that are left there, of all up to them
pub rows_last : (m : List ℕ) (start n : ℕ) → type_at m (start + n) start ≡ rows_from m n start
rows_last m start n = let e : start + n - start ≡ n = omega arith in ap (λ (k : ℕ). rows_from m k start) e

-- ---- a row

module _ (rows rest : List Row) (r : Row) where
  pub without_default : has_default r ≡ false → true ≡ default_fits rows r rest
  unfolding default_fits
  without_default h = rw h

  pub with_default_lem : has_default r ≡ true → {s : List ℕ} → s ≡ r.default → {type : List Row} → type ≡ type_of rest → {x : Bool} → x ≡ fits rows s (suc deepest) type 0
      → x ≡ default_fits rows r rest
  unfolding default_fits
  with_default_lem h a b c = c ∙ rw (h, a, b)

-- ---- rows of memory

module _ (m : List ℕ) (n i : ℕ) where
  module _ {x : Bool} (inv : some has_default (type_at m n i) ≡ x) where
    pub defaults_end : n ≤ i → false ≡ x
    unfolding some
    defaults_end l = sym (ap (some has_default) (rows_end m i n l)) ∙ inv

    module _ (l : i < n) {b : Bool} (f : b ≡ has_default (row_at m i)) where
      pub defaults_found : b ≡ true → true ≡ x
      unfolding some
      defaults_found g = sym (ap (some has_default) (rows_next m i n l) ∙ rw (← f, g)) ∙ inv

      pub defaults_on : b ≡ false → some has_default (type_at m n (i + 1)) ≡ x
      unfolding some
      defaults_on g = sym (ap (some has_default) (rows_next m i n l) ∙ rw (← f, g)) ∙ inv

  module _ (rows : List Row) {x : Resolution} (inv : misfit_in rows (type_at m n i) ≡ x) where
    pub misfit_end : n ≤ i → Ok tt ≡ x
    unfolding misfit_in
    misfit_end l = sym (ap (misfit_in rows) (rows_end m i n l)) ∙ inv

    module _ (l : i < n) {b : Bool} (f : b ≡ default_fits rows (row_at m i) (type_at m n (i + 1))) where
      pub misfit_here : b ≡ false → {k : ℕ} → k ≡ (entry_at m i).size → Err (record { why = DefaultDoesNotFit; at = k }) ≡ x
      unfolding misfit_in
      misfit_here g e = ap (λ (k : ℕ). Err (record { why = DefaultDoesNotFit; at = k })) e ∙ sym (ap (misfit_in rows) (rows_next m i n l) ∙ rw (← f, g)) ∙ inv

      pub misfit_on : b ≡ true → misfit_in rows (type_at m n (i + 1)) ≡ x
      unfolding misfit_in
      misfit_on g = sym (ap (misfit_in rows) (rows_next m i n l) ∙ rw (← f, g)) ∙ inv

-- ---- where no row has a default, all fit

pub none_fit : (rows ds : List Row) → some has_default ds ≡ false → misfit_in rows ds ≡ Ok tt
unfolding some misfit_in
none_fit rows [] h = refl
none_fit rows (r ∷ ds) h = go (has_default r) refl h (none_fit rows ds)
  where
    go : (b : Bool) → has_default r ≡ b → (b || some has_default ds) ≡ false → (some has_default ds ≡ false → misfit_in rows ds ≡ Ok tt) → misfit_in rows (r ∷ ds) ≡ Ok tt
    go true e h k = never (sym h)
    go false e h k = rw (← (without_default rows ds r e)) (k h)
