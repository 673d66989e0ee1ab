-- `fits::rows::next_part` meets its contract: the parts among the rows that are left are the parts.
-- Assumes nothing.
use mathlib.Core.Path.{refl}
use borrow.Author.Rules.{rules}
use Rattle.fits.proofs.RowLaws.{part_end, part_stop, part_here, part_deeper}
use Rattle.fits.proofs.rows.next_part.Goals as goal

pub loop-i-init : goal.loop-i-init
loop-i-init c = (search rules, refl)

pub returns-then-d-depth : goal.returns-then-d-depth
returns-then-d-depth c = (search rules, search rules, part_stop _ _ _ _ c.loop-i.invariant.1 c.loop-i-test.true c.depth_at-d.ensures.0 c.if-d-depth.true)

pub returns-then-d-depth-2 : goal.returns-then-d-depth-2
returns-then-d-depth-2 c = (search rules, search rules, part_here _ _ _ _ c.loop-i.invariant.1 c.loop-i-test.true c.depth_at-d.ensures.0 c.if-d-depth.false c.if-d-depth-2.true)

pub loop-i-preserved : goal.loop-i-preserved
loop-i-preserved c = (search rules, part_deeper _ _ _ _ c.loop-i.invariant.1 c.loop-i-test.true c.depth_at-d.ensures.0 c.if-d-depth.false c.if-d-depth-2.false)

pub returns : goal.returns
returns c = (search rules, search rules, part_end _ _ _ _ c.loop-i.invariant.1 c.loop-i-test.false)
