-- `fits::misfits::default_fits` meets its contract.
-- Assumes nothing.
use mathlib.Core.Path.{sym, ◌∙◌}
use Rattle.fits.proofs.MisfitLaws.{without_default, with_default_lem}
use Rattle.fits.proofs.misfits.default_fits.Goals as goal

pub returns-then-not-has_default : goal.returns-then-not-has_default
returns-then-not-has_default c = (without_default _ _ _ (sym c.has_default.ensures ∙ c.if-not-has_default.true), c.requires.3)

pub returns : goal.returns
returns c = (with_default_lem _ _ _ (sym c.has_default.ensures ∙ c.if-not-has_default.false) c.default_of.ensures.0 c.type_row-own.ensures c.fits.ensures.0, c.fits.ensures.1)
