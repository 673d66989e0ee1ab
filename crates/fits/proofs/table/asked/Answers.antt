-- `fits::table::asked` meets its contract.
-- Assumes nothing.
use mathlib.Core.Path.{◌∙◌}
use native.Mathlib.Omega.{arith}
use Rattle.fits.proofs.TableLaws.{place_few, entry_row, entry_place, entry_here, entry_out}
use native.Mathlib.Nat.{le_of_lt}
use Rattle.fits.proofs.table.asked.Goals.{then-n-row-via-then-n-row, then-n-row-via-else-n-row+then-at-ge-PLACES}
use Rattle.fits.proofs.table.asked.Goals as goal

pub returns-then-n-row : goal.returns-then-n-row
returns-then-n-row c =
    elim c.then-n-row.branch [
      | then-n-row-via-then-n-row w ↦ entry_row _ _ _ _ w.if-n-row.true
      | then-n-row-via-else-n-row+then-at-ge-PLACES w ↦ entry_place _ _ _ _ w.if-n-row.false w.if-at-ge-PLACES.true
    ]

pub overflow_mul-i : goal.overflow_mul-i
overflow_mul-i c = omega (arith, place_few _ _ (le_of_lt c.if-at-ge-PLACES.false) c.requires)

pub overflow_add-i : goal.overflow_add-i
overflow_add-i c = omega (arith, place_few _ _ (le_of_lt c.if-at-ge-PLACES.false) c.requires)

pub returns-then-table-i : goal.returns-then-table-i
returns-then-table-i c = entry_out _ _ _ _ c.if-n-row.false c.if-at-ge-PLACES.false c.if-table-i.true

pub returns : goal.returns
returns c = c.from.ensures ∙ entry_here _ _ _ _ c.if-n-row.false c.if-at-ge-PLACES.false
