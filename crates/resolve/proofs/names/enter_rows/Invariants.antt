-- `resolve::names::enter_rows` meets its contract: the definitions before each row are entered.
-- Assumes nothing.
use Rattle.resolve.specs.Steps.{Sized, KeepsNames}
use Rattle.resolve.proofs.names.enter_rows.Given as goal

abbrev pub invariant-loop-a : goal.invariant-loop-a
invariant-loop-a l = Sized l.first l.next × KeepsNames l.set l.n l.set 0 l.first l.next l.a
