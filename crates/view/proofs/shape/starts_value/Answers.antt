-- `view::shape::starts_value` meets its contract.
-- Assumes nothing.
use mathlib.Core.Path.{ap, ◌∙◌}
use Rattle.view.specs.Values.{is_value}
use Rattle.view.proofs.shape.starts_value.Goals as goal

pub returns : goal.returns
returns c = c.is_value.ensures ∙ ap is_value c.shape_of.ensures
