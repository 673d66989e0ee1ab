-- `binary::int_at` meets its contract: what has five groups at most is asked for 32 bits.
-- Assumes nothing.
use Rattle.std.proofs.Common.{arith}
use Rattle.std.proofs.lemmas.Result.{err_from_is_err_and}
use Rattle.binary.proofs.Widths.{int_is, int_over, int_err}
use Rattle.binary.proofs.int_at.Goals as goal

pub returns-in_err-value : goal.returns-in_err-value
returns-in_err-value c = let p = err_from_is_err_and c.from_residual.result c.from_residual.ensures.1 in rw (p.1, p.2) (int_err _ _ c.read.ensures (omega arith) _ c.in_err-value.was)

pub returns-then-value-from : goal.returns-then-value-from
returns-then-value-from c = int_is _ _ c.read.ensures (omega arith) _ _ c.in_ok-value.was (omega (arith, c.from.ensures))

pub returns-else-value-from : goal.returns-else-value-from
returns-else-value-from c = int_over _ _ c.read.ensures (omega arith) _ _ c.in_ok-value.was (omega (arith, c.from.ensures))
