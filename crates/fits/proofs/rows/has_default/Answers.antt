-- `fits::rows::has_default` meets its contract: a default is told by its length.
-- Assumes nothing.
use mathlib.Core.Path.{ap, ◌∙◌}
use mathlib.Core.Bool.{not}
use Rattle.name.specs.Name.{is_empty}
use Rattle.resolve.proofs.RuleLaws.{no_bytes}
use Rattle.fits.specs.Types.{has_default}
use Rattle.fits.proofs.rows.has_default.Goals as goal

pub returns : goal.returns
unfolding has_default
returns c = ap not (c.is_empty.ensures ∙ no_bytes _ ∙ ap is_empty c.default_of.ensures.0)
