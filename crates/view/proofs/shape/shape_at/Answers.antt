-- `view::shape::shape_at` meets its contract.
-- Assumes nothing.
use mathlib.Core.Path.{ap, ◌∙◌}
use Rattle.view.specs.Values.{shape_of}
use Rattle.view.proofs.shape.shape_at.Goals as goal

pub returns : goal.returns
returns c = c.shape_of.ensures ∙ ap shape_of c.byte_at.ensures
