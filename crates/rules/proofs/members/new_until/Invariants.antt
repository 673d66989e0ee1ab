-- `rules::members::new_until` meets its contract: the members that were passed are new.
-- Assumes nothing.
use mathlib.Core.Path.{◌≡◌}
use lib.ListN.{length}
use Rattle.view.specs.Elements.{elements_at}
use Rattle.rules.proofs.Surely.{Going}
use Rattle.rules.proofs.members.new_until.Given as goal

abbrev pub invariant-loop-spot : goal.invariant-loop-spot
invariant-loop-spot l = (length l.table ≡ length l.initial.table) × Going l.text l.namespace l.array l.spot l.table

abbrev pub decreases-loop-spot : goal.decreases-loop-spot
decreases-loop-spot l = length (elements_at l.text l.spot)
