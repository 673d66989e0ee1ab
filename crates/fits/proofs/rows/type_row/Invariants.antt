-- `fits::rows::type_row` meets its contract: the type behind the rows that are left is the type.
-- Assumes nothing.
use mathlib.Core.Path.{◌≡◌}
use Rattle.fits.specs.Types.{type_of}
use Rattle.fits.specs.Steps.{type_at}
use Rattle.fits.proofs.rows.type_row.Given as goal

abbrev pub invariant-loop-i : goal.invariant-loop-i
invariant-loop-i l = type_of (type_at l.mem l.n l.i) ≡ type_of (type_at l.mem l.n l.start)
