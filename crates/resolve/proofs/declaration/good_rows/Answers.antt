-- `resolve::declaration::good_rows` meets its contract: the answer for the rows that are left is the answer.
-- Assumes nothing.
use mathlib.Core.Path.{refl, sym, ◌∙◌}
use Rattle.resolve.proofs.TreeLaws.{good_end, good_bad, good_more}
use borrow.Author.Rules.{rules}
use Rattle.resolve.proofs.declaration.good_rows.Goals as goal

pub loop-i-init : goal.loop-i-init
loop-i-init c = (c.requires.3, refl)

pub good_row-requires : goal.good_row-requires
good_row-requires c = (search rules, search rules, search rules, c.loop-i.invariant.0)

pub shape_of-first-then-not-good_row : goal.shape_of-first-then-not-good_row
shape_of-first-then-not-good_row c = c.good_row.ensures.1.firsts ∙ sym c.requires.3.firsts

pub shape_of-next-then-not-good_row : goal.shape_of-next-then-not-good_row
shape_of-next-then-not-good_row c = c.good_row.ensures.1.nexts ∙ sym c.requires.3.nexts

pub returns-then-not-good_row : goal.returns-then-not-good_row
returns-then-not-good_row c = (good_bad _ _ _ _ c.loop-i.invariant.1 c.loop-i-test.true (sym c.good_row.ensures.0 ∙ c.if-not-good_row.true), c.good_row.ensures.1)

pub loop-i-preserved : goal.loop-i-preserved
loop-i-preserved c = (c.good_row.ensures.1, good_more _ _ _ _ c.loop-i.invariant.1 c.loop-i-test.true (sym c.good_row.ensures.0 ∙ c.if-not-good_row.false))

pub shape_of-first : goal.shape_of-first
shape_of-first c = c.loop-i.invariant.0.firsts ∙ sym c.requires.3.firsts

pub shape_of-next : goal.shape_of-next
shape_of-next c = c.loop-i.invariant.0.nexts ∙ sym c.requires.3.nexts

pub returns : goal.returns
returns c = (good_end _ _ _ _ c.loop-i.invariant.1 c.loop-i-test.false, c.loop-i.invariant.0)
