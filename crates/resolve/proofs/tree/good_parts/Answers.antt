-- `resolve::tree::good_parts` meets its contract: the answer for the rows that are left, behind n parts, is the answer.
-- Assumes nothing.
use mathlib.Core.Path.{refl, sym, ◌∙◌}
use Rattle.resolve.proofs.TreeLaws.{parts_end, parts_stop, parts_deeper, parts_alias, parts_wrong, parts_part, parts_start}
use borrow.Author.Rules.{rules}
use Rattle.resolve.proofs.tree.good_parts.Goals as goal

pub loop-j-init : goal.loop-j-init
loop-j-init c = (search rules, parts_start _ _ _ _ _ refl c.depth_at-depth.ensures.0)

pub returns-then-d-depth : goal.returns-then-d-depth
returns-then-d-depth c = (rw c.kind_at-kind.ensures at c.may_end.ensures) ∙ parts_stop _ _ _ _ _ _ _ c.loop-j.invariant.1 c.loop-j-test.true _ c.depth_at-d.ensures.0 c.if-d-depth.true

pub loop-j-preserved-then-d-depth-2 : goal.loop-j-preserved-then-d-depth-2
loop-j-preserved-then-d-depth-2 c = (search rules, parts_deeper _ _ _ _ _ _ _ c.loop-j.invariant.1 c.loop-j-test.true _ c.depth_at-d.ensures.0 c.if-d-depth.false c.if-d-depth-2.true _ refl)

pub loop-j-preserved-then-is_leading : goal.loop-j-preserved-then-is_leading
loop-j-preserved-then-is_leading c = (search rules, parts_alias _ _ _ _ _ _ _ c.loop-j.invariant.1 c.loop-j-test.true _ c.depth_at-d.ensures.0 c.if-d-depth.false c.if-d-depth-2.false _ refl (sym (rw (c.kind_at-kind.ensures, c.kind_at-k.ensures) at c.is_leading.ensures) ∙ c.if-is_leading.true) _ refl)

pub returns-then-not-is_part_of : goal.returns-then-not-is_part_of
returns-then-not-is_part_of c = parts_wrong _ _ _ _ _ _ _ c.loop-j.invariant.1 c.loop-j-test.true _ c.depth_at-d.ensures.0 c.if-d-depth.false c.if-d-depth-2.false _ refl (sym (rw (c.kind_at-kind.ensures, c.kind_at-k.ensures) at c.is_leading.ensures) ∙ c.if-is_leading.false) (sym (rw (c.kind_at-kind.ensures, c.kind_at-k.ensures) at c.is_part_of.ensures) ∙ c.if-not-is_part_of.true)

pub loop-j-preserved : goal.loop-j-preserved
loop-j-preserved c = (search rules, parts_part _ _ _ _ _ _ _ c.loop-j.invariant.1 c.loop-j-test.true _ c.depth_at-d.ensures.0 c.if-d-depth.false c.if-d-depth-2.false _ refl (sym (rw (c.kind_at-kind.ensures, c.kind_at-k.ensures) at c.is_leading.ensures) ∙ c.if-is_leading.false) (sym (rw (c.kind_at-kind.ensures, c.kind_at-k.ensures) at c.is_part_of.ensures) ∙ c.if-not-is_part_of.false) _ refl)

pub returns : goal.returns
returns c = (rw c.kind_at-kind.ensures at c.may_end-2.ensures) ∙ parts_end _ _ _ _ _ _ _ c.loop-j.invariant.1 c.loop-j-test.false
