-- `set::names::full_name` meets its contract.
-- Assumes nothing.
use mathlib.Core.Path.{sym, ◌∙◌}
use Rattle.set.proofs.NameLaws.{full_name_lem, full_none}
use Rattle.set.proofs.names.full_name.Goals as goal

pub name_at-requires : goal.name_at-requires
name_at-requires c = sym c.well_formed-2.ensures ∙ c.if-well_formed.true

pub returns-then-well_formed : goal.returns-then-well_formed
returns-then-well_formed c = full_name_lem _ _ _ _ (sym c.well_formed-2.ensures ∙ c.if-well_formed.true) c.name_at.ensures

pub returns : goal.returns
returns c = full_none _ _ _ _ (sym c.well_formed-2.ensures ∙ c.if-well_formed.false)
