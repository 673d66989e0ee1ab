-- `binary::read` meets its contract: what is left says the whole, from group to group.
-- Assumes nothing.
use Rattle.binary.proofs.Turns.{Held}
use Rattle.binary.proofs.read.Given as goal

abbrev pub invariant-loop-i : goal.invariant-loop-i
invariant-loop-i l = Held l.bytes l.at l.most l.value l.power l.i
