-- `walk::leaves::flag` meets its contract.
-- Assumes nothing.
use Rattle.std.proofs.Common.{ap, arith, Err}
use Rattle.walk.proofs.LeafLaws.{flag_cut, flag_bad, flag_ok}
use Rattle.walk.proofs.leaves.flag.Goals as goal

pub returns-in_default : goal.returns-in_default
returns-in_default c = flag_cut _ _ (ap Err c.fault.ensures) c.in_default.ensures.lookup.3

pub returns-then-byte-gt1 : goal.returns-then-byte-gt1
returns-then-byte-gt1 c = let b = c.in-Some.ensures.lookup.3 in flag_bad _ _ b.0 (ap Err c.fault-then-byte-gt1.ensures) (omega (arith, b.1 0, c.if-byte-gt1.true))

pub returns : goal.returns
returns c = let b = c.in-Some.ensures.lookup.3 in flag_ok _ _ b.0 (omega (arith, b.1 0, c.if-byte-gt1.false))
