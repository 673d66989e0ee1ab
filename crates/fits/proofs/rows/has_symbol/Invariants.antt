-- `fits::rows::has_symbol` meets its contract: the answer for the parts that are left is the answer.
-- Assumes nothing.
use Prim.Native.Nat.{◌-◌, ◌≤◌}
use mathlib.Core.Path.{◌≡◌}
use Rattle.resolve.specs.Rules.{some}
use Rattle.fits.specs.Types.{parts_under}
use Rattle.fits.specs.Fits.{is_symbol}
use Rattle.fits.specs.Steps.{type_at, parts_from}
use Rattle.view.specs.Strings.{string_at}
use Rattle.fits.proofs.rows.has_symbol.Given as goal

abbrev pub invariant-loop-i : goal.invariant-loop-i
invariant-loop-i l = (l.i ≤ l.n) × (some (is_symbol (string_at l.text l.at)) (parts_from l.mem l.n l.depth l.i) ≡ some (is_symbol (string_at l.text l.at)) (parts_under l.depth (type_at l.mem l.n l.start)))

abbrev pub decreases-loop-i : goal.decreases-loop-i
decreases-loop-i l = l.n - l.i
