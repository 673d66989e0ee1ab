-- `name::halves::has_dot` meets its contract. Assumes nothing.
use mathlib.Core.Path.{◌∙◌}
use Rattle.name.proofs.halves.Dots.{dot_any}
use Rattle.name.proofs.halves.has_dot.Goals as goal

pub returns : goal.returns
returns c = c.contains.ensures.value ∙ dot_any _
