-- `walk::frames::is_right` meets its contract.
-- Assumes nothing.
use Rattle.std.proofs.Common.{◌∙◌}
use Rattle.walk.proofs.FrameLaws.{right_none, right_size}
use borrow.Author.Tests.{eq-eqb}
use Rattle.walk.proofs.frames.is_right.Goals as goal

pub returns-then-size-eq0 : goal.returns-then-size-eq0
returns-then-size-eq0 c = eq-eqb _ 0 c.if-size-eq0.true ∙ right_none _ _ _ c.if-size-eq0.true

pub returns-else-size-eq0 : goal.returns-else-size-eq0
returns-else-size-eq0 c = c.is_size.ensures ∙ right_size _ _ _ c.if-size-eq0.false
