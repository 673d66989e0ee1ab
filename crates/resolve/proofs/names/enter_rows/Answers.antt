-- `resolve::names::enter_rows` meets its contract: the definitions before each row are entered.
-- Assumes nothing.
use mathlib.Core.Path.{sym, ◌∙◌}
use Rattle.resolve.proofs.LineLaws.{line_none, line_first, line_all, line_more, sized_with}
use borrow.Author.Rules.{rules}
use Rattle.resolve.proofs.names.enter_rows.Goals as goal

pub loop-a-init : goal.loop-a-init
loop-a-init c = (c.requires.2, line_none _ _ _ _ _ _)

pub loop-a-preserved : goal.loop-a-preserved
loop-a-preserved c = (sized_with _ _ c.loop-a.invariant.0 c.enter_row.ensures.0 c.enter_row.ensures.1, line_more _ _ _ _ c.loop-a.invariant.1 c.loop-a.invariant.0 (search rules) (line_first _ _ _ _ _ c.loop-a-test.true) c.enter_row.ensures.0 c.enter_row.ensures.1)

pub shape_of-first : goal.shape_of-first
shape_of-first c = c.loop-a.invariant.0.firsts ∙ sym c.requires.2.firsts

pub shape_of-next : goal.shape_of-next
shape_of-next c = c.loop-a.invariant.0.nexts ∙ sym c.requires.2.nexts

pub returns : goal.returns
returns c = (c.loop-a.invariant.0, line_all _ _ c.loop-a.invariant.1 (search rules) c.loop-a-test.false)
