-- `view::members::titles_at` meets its contract: what will be found is the answer.
-- Assumes nothing.
use lib.ListN.{length}
use Rattle.view.specs.Members.{keys_at}
use Rattle.view.proofs.OnePass.{key_of}
use Rattle.view.proofs.Titled.{Titling}
use Rattle.view.proofs.members.titles_at.Given as goal

abbrev pub invariant-loop-entry : goal.invariant-loop-entry
invariant-loop-entry l = Titling l.text l.at l.name l.aliases l.entry

abbrev pub decreases-loop-entry : goal.decreases-loop-entry
decreases-loop-entry l = length (keys_at l.text (key_of l.entry))
