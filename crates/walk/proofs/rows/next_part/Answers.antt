-- `walk::rows::next_part` meets its contract: the parts among the rows that are left are the parts.
-- Assumes nothing.
use Rattle.walk.proofs.RowLaws.{part_end, part_stop, part_here, part_alias, part_deeper}
use Rattle.walk.proofs.rows.next_part.Goals as goal
use Rattle.walk.proofs.rows.next_part.Goals.{else-d-depth-2-via-then-d-depth-2+else-is_part, else-d-depth-2-via-else-d-depth-2}

pub returns-then-d-depth : goal.returns-then-d-depth
returns-then-d-depth c = part_stop _ _ _ _ _ c.loop-i.invariant c.loop-i-test.true c.depth_at-d.ensures.0 c.if-d-depth.true

pub returns-then-is_part : goal.returns-then-is_part
returns-then-is_part c = part_here _ _ _ _ _ c.loop-i.invariant c.loop-i-test.true c.depth_at-d.ensures.0 c.if-d-depth-2.true (c.is_part.ensures _ c.kind_number.ensures) c.if-is_part.true

pub loop-i-preserved : goal.loop-i-preserved
loop-i-preserved c =
    elim c.else-d-depth-2.branch [
      | else-d-depth-2-via-then-d-depth-2+else-is_part w ↦ part_alias _ _ _ _ _ c.loop-i.invariant c.loop-i-test.true c.depth_at-d.ensures.0 w.if-d-depth-2.true (w.is_part.ensures _ w.kind_number.ensures) w.if-is_part.false
      | else-d-depth-2-via-else-d-depth-2 w ↦ part_deeper _ _ _ _ _ c.loop-i.invariant c.loop-i-test.true c.depth_at-d.ensures.0 c.if-d-depth.false w.if-d-depth-2.false
    ]

pub returns : goal.returns
returns c = part_end _ _ _ _ _ c.loop-i.invariant c.loop-i-test.false
