-- `values::members::under_key` meets its contract: what will be found is the answer.
-- Assumes nothing.
use lib.ListN.{length}
use Rattle.values.proofs.MemberLaws.{Seeking}
use Rattle.view.proofs.Laws.{key_of}
use Rattle.view.specs.Strings.{string_at}
use Rattle.view.specs.Members.{keys_at}
use Rattle.values.proofs.members.under_key.Given as goal

abbrev pub invariant-loop-entry : goal.invariant-loop-entry
invariant-loop-entry l = Seeking l.text (string_at l.text l.place) l.at l.found l.entry

abbrev pub decreases-loop-entry : goal.decreases-loop-entry
decreases-loop-entry l = length (keys_at l.text (key_of l.entry))
