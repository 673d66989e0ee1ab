-- `fits::misfits::first_misfit` meets its contract: the first misfit of the rows that are left is the first.
-- Assumes nothing.
use mathlib.Core.Path.{refl, ap}
use Rattle.fits.specs.Misfits.{misfit_in}
use Rattle.fits.proofs.MisfitLaws.{rows_last, misfit_end, misfit_here, misfit_on}
use Rattle.fits.proofs.DefinitionLaws.{found_zeros}
use borrow.Author.Rules.{rules}
use Rattle.fits.proofs.misfits.first_misfit.Goals as goal

pub loop-i-init : goal.loop-i-init
loop-i-init c = (search rules, refl, found_zeros _ _ 1024, ap (misfit_in _) (rows_last _ c.args.start c.args.n))

pub returns-then-not-default_fits : goal.returns-then-not-default_fits
returns-then-not-default_fits c = misfit_here _ _ _ _ c.loop-i.invariant.3 c.loop-i-test.true c.default_fits.ensures.0 c.if-not-default_fits.true c.size_at.ensures

pub loop-i-preserved : goal.loop-i-preserved
loop-i-preserved c = (search rules, search rules, c.default_fits.ensures.1, misfit_on _ _ _ _ c.loop-i.invariant.3 c.loop-i-test.true c.default_fits.ensures.0 c.if-not-default_fits.false)

pub returns : goal.returns
returns c = misfit_end _ _ _ _ c.loop-i.invariant.3 c.loop-i-test.false
