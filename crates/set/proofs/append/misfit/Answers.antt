-- `set::append::misfit` meets its contract: where there is no default, all fit.
-- Assumes nothing.
use mathlib.Core.Path.{sym, ◌∙◌}
use Rattle.fits.proofs.MisfitLaws.{none_fit}
use Rattle.set.proofs.append.misfit.Goals as goal

pub returns-then-has_defaults : goal.returns-then-has_defaults
returns-then-has_defaults c = c.first_misfit.ensures

pub returns : goal.returns
returns c = sym (none_fit _ _ (sym c.has_defaults.ensures ∙ c.if-has_defaults.false))
