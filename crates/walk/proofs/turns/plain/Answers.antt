-- `walk::turns::plain` meets its contract.
-- Assumes nothing.
use Rattle.std.proofs.Common.{ap, Ok}
use Rattle.walk.proofs.Laws.{exit}
use Rattle.walk.proofs.DatumLaws.{plain_to, plain_bad}
use Rattle.walk.proofs.turns.plain.Goals as goal

pub returns-in_err-to : goal.returns-in_err-to
returns-in_err-to c = λ m n frames list row i e s f b l. plain_bad m n _ frames list row _ i e b l s f c.leaf.ensures c.in_err-to.was (exit c.from_residual.ensures.1)

pub returns : goal.returns
returns c = λ m n frames list row i e s f b l. plain_to m n _ frames list row _ i e b l s f c.leaf.ensures c.in_ok-to.was (ap Ok c.moved.ensures)
