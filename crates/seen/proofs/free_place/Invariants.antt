-- `seen::free_place` meets its contract: what is found from a place on is what is found.
-- Assumes nothing.
use mathlib.Core.Path.{◌≡◌}
use Prim.Native.Nat.{◌-◌, ◌<◌}
use lib.ListN.{length}
use Rattle.seen.specs.Seen.{span, from, free_place}
use Rattle.seen.proofs.free_place.Given as goal

abbrev pub invariant-loop-turn : goal.invariant-loop-turn
invariant-loop-turn l = (l.x < span) × (from l.table l.mark (length l.table - l._turn) l.x ≡ free_place l.table l.mark)
