-- `fits::misfits::has_defaults` meets its contract: the answer for the rows that are left is the answer.
-- Assumes nothing.
use mathlib.Core.Path.{◌≡◌}
use Prim.Native.Nat.{◌≤◌}
use Rattle.row.specs.Layout.{row_limit}
use Rattle.row.specs.Sets.{rows_from}
use Rattle.resolve.specs.Rules.{some}
use Rattle.fits.specs.Types.{has_default}
use Rattle.fits.specs.Steps.{type_at}
use Rattle.fits.proofs.misfits.has_defaults.Given as goal

abbrev pub invariant-loop-i : goal.invariant-loop-i
invariant-loop-i l = (l.end ≤ row_limit) × (some has_default (type_at l.mem l.end l.i) ≡ some has_default (rows_from l.mem l.n l.start))
