-- `set::names::name_of` meets its contract.
-- Assumes nothing.
use mathlib.Core.Path.{sym, ◌∙◌}
use Rattle.set.proofs.NameLaws.{has_name, no_name}
use Rattle.set.proofs.names.name_of.Goals as goal

pub returns-then-has_full_name : goal.returns-then-has_full_name
returns-then-has_full_name c = has_name _ _ _ c.kind_at.ensures _ (sym c.has_full_name.ensures ∙ c.if-has_full_name.true) c.string_of.ensures

pub returns : goal.returns
returns c = no_name _ _ _ c.kind_at.ensures _ (sym c.has_full_name.ensures ∙ c.if-has_full_name.false)
