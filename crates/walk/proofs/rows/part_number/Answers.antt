-- `walk::rows::part_number` meets its contract: among the parts that are left it is the part with the number that is left.
-- Assumes nothing.
use Rattle.std.proofs.Common.{refl, arith, rules}
use Rattle.std.proofs.Math.Nat.{sub-zero}
use Rattle.walk.proofs.RowLaws.{count_start, count_on, count_end, count_done}
use Rattle.walk.proofs.rows.part_number.Goals as goal

pub loop-init : goal.loop-init
loop-init c = (rw sub-zero (count_start _ _ _ _ _ _ c.first_part-r.ensures), c.requires.3, refl)

pub returns-then-n-r : goal.returns-then-n-r
returns-then-n-r c = let e = count_end _ _ c.loop.invariant.0 c.if-n-r.true in (search rules, e.0, e.1, c.loop.invariant.1)

pub loop-preserved : goal.loop-preserved
loop-preserved c = (count_on _ _ c.loop.invariant.0 c.if-n-r.false (omega arith) _ c.follower-r.ensures.0, c.follower-r.ensures.1, search rules)

pub returns : goal.returns
returns c = let e = count_done _ _ c.loop.invariant.0 (omega arith) in (c.loop.invariant.0.below, e.0, e.1, c.loop.invariant.1)
