-- `declare::spot::spot_of` meets its contract: the spot behind what is left, from the spot so far, is that of the position.
-- Assumes nothing.
use mathlib.Core.Path.{◌≡◌}
use Prim.Native.Nat.{◌+◌, ◌<◌, ◌≤◌}
use lib.ListN.{take, drop}
use Rattle.declare.specs.Spots.{stepped_all, spot_of}
use Rattle.declare.proofs.spot.spot_of.Given as goal

abbrev pub invariant-loop-b : goal.invariant-loop-b
invariant-loop-b l = (l.spot.line ≤ l.b-index + 1) × (0 < l.spot.column) × (l.spot.column ≤ l.b-index + 1) × (stepped_all l.spot (drop l.b-index (take l.at l.text)) ≡ spot_of l.text l.at)
