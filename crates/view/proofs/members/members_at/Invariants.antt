-- `view::members::members_at` meets its contract: what will be found is the answer.
-- Assumes nothing.
use lib.ListN.{length}
use Rattle.view.specs.Members.{keys_at}
use Rattle.view.proofs.OnePass.{Passing, key_of}
use Rattle.view.proofs.members.members_at.Given as goal

abbrev pub invariant-loop-entry : goal.invariant-loop-entry
invariant-loop-entry l = Passing l.text l.at l.found l.entry

abbrev pub decreases-loop-entry : goal.decreases-loop-entry
decreases-loop-entry l = length (keys_at l.text (key_of l.entry))
