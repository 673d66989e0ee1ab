-- `walk::leaves::counted` meets its contract: so many bytes from behind the length on are those behind the offset.
-- Assumes nothing.
use Rattle.std.proofs.Common.{ap, Err}
use Rattle.walk.proofs.Laws.{exit}
use Rattle.walk.proofs.LeafLaws.{long_within, counted_err, counted_negative, counted_pass}
use Rattle.walk.proofs.leaves.counted.Goals as goal

pub returns-in_err-v : goal.returns-in_err-v
returns-in_err-v c = counted_err _ _ c.number.ensures c.long_at.ensures c.in_err-v.was (exit c.from_residual.ensures.1)

pub returns-then-is_negative : goal.returns-then-is_negative
returns-then-is_negative c = counted_negative _ _ c.number.ensures c.long_at.ensures c.in_ok-v.was c.is_negative.ensures c.if-is_negative.true (ap Err c.fault.ensures)

pub pass-requires : goal.pass-requires
pass-requires c = long_within _ _ c.number.ensures c.long_at.ensures c.in_ok-v.was

pub returns : goal.returns
returns c = counted_pass _ _ c.number.ensures c.long_at.ensures c.in_ok-v.was c.is_negative.ensures c.if-is_negative.false c.absolute.ensures c.pass.ensures
