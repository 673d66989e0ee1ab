-- `fits::table::note` meets its contract.
-- Assumes nothing.
use native.Mathlib.Omega.{arith}
use Rattle.fits.proofs.TableLaws.{place_few, noted_row, noted_place, noted_here, noted_out}
use native.Mathlib.Nat.{le_of_lt}
use Rattle.fits.proofs.table.note.Goals.{then-n-row-via-then-n-row, then-n-row-via-else-n-row+then-at-ge-PLACES}
use Rattle.fits.proofs.table.note.Goals as goal

pub returns-then-n-row : goal.returns-then-n-row
returns-then-n-row c =
    elim c.then-n-row.branch [
      | then-n-row-via-then-n-row w ↦ noted_row _ _ _ _ _ w.if-n-row.true
      | then-n-row-via-else-n-row+then-at-ge-PLACES w ↦ noted_place _ _ _ _ _ w.if-n-row.false w.if-at-ge-PLACES.true
    ]

pub overflow_mul-i : goal.overflow_mul-i
overflow_mul-i c = omega (arith, place_few _ _ (le_of_lt c.if-at-ge-PLACES.false) c.requires.0)

pub overflow_add-i : goal.overflow_add-i
overflow_add-i c = omega (arith, place_few _ _ (le_of_lt c.if-at-ge-PLACES.false) c.requires.0)

pub returns-then-i-table : goal.returns-then-i-table
returns-then-i-table c = noted_here _ _ _ _ _ c.if-n-row.false c.if-at-ge-PLACES.false

pub returns-else-i-table : goal.returns-else-i-table
returns-else-i-table c = noted_out _ _ _ _ _ c.if-n-row.false c.if-at-ge-PLACES.false c.if-i-table.false
