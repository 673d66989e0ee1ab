-- `view::elements::value_from` meets its contract.
-- Assumes nothing.
use mathlib.Core.Path.{sym, ◌∙◌}
use Rattle.view.proofs.Places.{value_here, value_none}
use Rattle.view.proofs.elements.value_from.Goals as goal

pub returns-then-starts_value : goal.returns-then-starts_value
returns-then-starts_value c = value_here _ _ _ _ c.skip-p.ensures c.byte_at.ensures (sym c.starts_value.ensures ∙ c.if-starts_value.true)

pub returns : goal.returns
returns c = value_none _ _ _ _ c.skip-p.ensures c.byte_at.ensures (sym c.starts_value.ensures ∙ c.if-starts_value.false)
