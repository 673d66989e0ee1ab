-- `canonical::places::place_with` meets its contract: the places before the one at hand, and the search from it on.
-- Assumes nothing.
use mathlib.Core.Path.{◌≡◌}
use Prim.Native.Nat.{◌+◌}
use lib.ListN.{length, drop}
use Rattle.row.specs.Sets.{decode}
use Rattle.canonical.specs.Walk.{text_limit}
use Rattle.canonical.specs.Places.{place_with}
use Rattle.canonical.proofs.places.place_with.Given as goal

abbrev pub invariant-loop-place : goal.invariant-loop-place
invariant-loop-place l = (length l.text ≡ text_limit) × (place_with l.print (decode l.mem) ≡ l.place + place_with l.print (drop l.place (decode l.mem)))
