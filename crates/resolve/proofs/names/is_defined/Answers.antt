-- `resolve::names::is_defined` meets its contract. The invariant: the name is defined if one of the rows left defines it.
-- Assumes nothing.
use mathlib.Core.Path.{sym, ◌∙◌}
use Rattle.resolve.proofs.ResolveLaws.{defined_start, defined_hit, defined_more, defined_end}
use Rattle.resolve.proofs.names.is_defined.Goals as goal

pub loop-i-init : goal.loop-i-init
loop-i-init c = defined_start _ _ _ _

pub returns-then-is_definition_of : goal.returns-then-is_definition_of
returns-then-is_definition_of c = defined_hit _ _ _ _ _ c.loop-i.invariant c.loop-i-test.true (sym c.is_definition_of.ensures ∙ c.if-is_definition_of.true)

pub loop-i-preserved : goal.loop-i-preserved
loop-i-preserved c = defined_more _ _ _ _ _ c.loop-i.invariant c.loop-i-test.true (sym c.is_definition_of.ensures ∙ c.if-is_definition_of.false)

pub returns : goal.returns
returns c = defined_end _ _ _ _ _ c.loop-i.invariant c.loop-i-test.false
