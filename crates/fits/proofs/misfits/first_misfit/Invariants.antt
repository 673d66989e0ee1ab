-- `fits::misfits::first_misfit` meets its contract: the first misfit of the rows that are left is the first.
-- Assumes nothing.
use mathlib.Core.Path.{◌≡◌}
use Prim.Native.Nat.{◌+◌, ◌≤◌}
use lib.ListN.{length}
use Rattle.row.specs.Layout.{row_limit}
use Rattle.row.specs.Sets.{rows_from}
use Rattle.fits.specs.Misfits.{misfit_in}
use Rattle.fits.specs.Steps.{type_at, Found}
use Rattle.fits.proofs.misfits.first_misfit.Given as goal

abbrev pub invariant-loop-i : goal.invariant-loop-i
invariant-loop-i l = (l.end ≤ row_limit) × (length l.found ≡ 1024) × Found l.mem l.end l.found × (misfit_in (rows_from l.mem l.end 0) (type_at l.mem l.end l.i) ≡ misfit_in (rows_from l.mem (l.start + l.n) 0) (rows_from l.mem l.n l.start))
