-- `resolve::declaration::climbs_on` meets its contract: the answer for the rows that are left, behind the depth of the last, is the answer.
-- Assumes nothing.
use mathlib.Core.Path.{◌≡◌}
use Prim.Native.Nat.{◌-◌, ◌<◌}
use Rattle.row.specs.Sets.{rows_from}
use Rattle.resolve.specs.Rules.{climbs}
use Rattle.resolve.proofs.declaration.climbs_on.Given as goal

abbrev pub invariant-loop-i : goal.invariant-loop-i
invariant-loop-i l = (l.depth < 65536) × (climbs 0 (rows_from l.mem (l.end - l.start) l.start) ≡ climbs l.depth (rows_from l.mem (l.end - l.i) l.i))
