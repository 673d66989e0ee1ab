-- `resolve::names::definition_of` meets its contract: the definition among the rows that are left is the definition.
-- Assumes nothing.
use borrow.Author.Rules.{rules}
use Rattle.resolve.proofs.ResolveLaws.{definition_start, definition_hit, definition_more, definition_end}
use Rattle.resolve.proofs.names.definition_of.Goals as goal

pub loop-d-init : goal.loop-d-init
loop-d-init c = definition_start _ _ _

pub returns-then-is_definition_of : goal.returns-then-is_definition_of
returns-then-is_definition_of c = (search rules, definition_hit _ _ _ _ _ c.loop-d.invariant c.loop-d-test.true c.string_of-name.ensures.0 c.is_definition_of.ensures c.if-is_definition_of.true)

pub loop-d-preserved : goal.loop-d-preserved
loop-d-preserved c = definition_more _ _ _ _ _ c.loop-d.invariant c.loop-d-test.true c.string_of-name.ensures.0 c.is_definition_of.ensures c.if-is_definition_of.false

pub returns : goal.returns
returns c = (search rules, definition_end _ _ _ _ _ c.loop-d.invariant c.loop-d-test.false)
