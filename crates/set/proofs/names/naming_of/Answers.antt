-- `set::names::naming_of` meets its contract.
-- Assumes nothing.
use mathlib.Core.Path.{sym, ◌∙◌}
use Rattle.set.proofs.NameLaws.{naming_not, naming_none, naming_done}
use Rattle.set.proofs.names.naming_of.Goals as goal

pub returns-then-not-well_formed : goal.returns-then-not-well_formed
returns-then-not-well_formed c = naming_not _ _ _ (sym c.well_formed-2.ensures ∙ c.if-not-well_formed.true) c.refused.ensures

pub name_at-name-requires : goal.name_at-name-requires
name_at-name-requires c = sym c.well_formed-2.ensures ∙ c.if-not-well_formed.false

pub returns-then-is_empty : goal.returns-then-is_empty
returns-then-is_empty c = naming_none _ _ _ (sym c.well_formed-2.ensures ∙ c.if-not-well_formed.false) _ c.name_at-name.ensures.0 (sym c.is_empty.ensures ∙ c.if-is_empty.true) c.refused-then-is_empty.ensures

pub returns : goal.returns
returns c = naming_done _ _ _ (sym c.well_formed-2.ensures ∙ c.if-not-well_formed.false) _ c.name_at-name.ensures.0 (sym c.is_empty.ensures ∙ c.if-is_empty.false)
