-- `walk::walk` meets its contract: what comes of it all is kept from turn to turn.
-- Assumes nothing.
use Rattle.walk.specs.Steps.{to_do}
use Rattle.walk.proofs.DatumLaws.{Held}
use Rattle.walk.proofs.walk.Given as goal

abbrev pub invariant-loop-here : goal.invariant-loop-here
invariant-loop-here l = Held l.mem l.n l.bytes l.row l.at l.frames l.list l.found l.next l.here

abbrev pub decreases-loop-here : goal.decreases-loop-here
decreases-loop-here l = to_do l.here
