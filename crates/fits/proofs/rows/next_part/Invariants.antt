-- `fits::rows::next_part` meets its contract: the parts among the rows that are left are the parts.
-- Assumes nothing.
use Prim.Native.Nat.{◌≤◌}
use mathlib.Core.Path.{◌≡◌}
use Rattle.fits.specs.Types.{parts_under}
use Rattle.fits.specs.Steps.{type_at}
use Rattle.fits.proofs.rows.next_part.Given as goal

abbrev pub invariant-loop-i : goal.invariant-loop-i
invariant-loop-i l = (l.start ≤ l.i) × (parts_under l.depth (type_at l.mem l.n l.i) ≡ parts_under l.depth (type_at l.mem l.n l.start))
