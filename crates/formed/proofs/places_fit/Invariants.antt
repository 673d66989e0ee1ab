-- `formed::places_fit` meets its contract: the answer for the places that are left is the answer.
-- Assumes nothing.
use mathlib.Core.Path.{◌≡◌}
use mathlib.Core.List.{[]}
use Prim.Native.Nat.{◌+◌, ◌-◌, ◌≤◌}
use Rattle.row.specs.Layout.{row_limit}
use Rattle.row.specs.Sets.{rows_from, decode}
use Rattle.formed.specs.WellFormed.{defaults_fit}
use Rattle.formed.proofs.DecodeLaws.{rows_left, left}
use Rattle.formed.proofs.places_fit.Given as goal

abbrev pub invariant-loop-place : goal.invariant-loop-place
invariant-loop-place l = (l.start + rows_left l.mem l.place (l.n - l.place) ≤ row_limit) × (defaults_fit [] (decode l.mem) ≡ defaults_fit (rows_from l.mem l.start 0) (left l.mem l.place (l.n - l.place) l.start))
