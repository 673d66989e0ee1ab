-- `walk::leaves::choice` meets its contract.
-- Assumes nothing.
use Rattle.std.proofs.Common.{ap, Err}
use Rattle.walk.proofs.Laws.{exit}
use Rattle.walk.proofs.LeafLaws.{choice_err, choice_negative, choice_part}
use Rattle.walk.proofs.leaves.choice.Goals as goal

pub returns-in_err-v : goal.returns-in_err-v
returns-in_err-v c = choice_err _ _ c.number.ensures c.int_at.ensures c.in_err-v.was (exit c.from_residual.ensures.1)

pub returns-then-is_negative : goal.returns-then-is_negative
returns-then-is_negative c = choice_negative _ _ c.number.ensures c.int_at.ensures c.in_ok-v.was c.is_negative.ensures c.if-is_negative.true (ap Err c.fault.ensures)

pub returns-else-is_negative : goal.returns-else-is_negative
returns-else-is_negative c = choice_part _ _ c.number.ensures c.int_at.ensures c.in_ok-v.was c.is_negative.ensures c.if-is_negative.false c.absolute.ensures
