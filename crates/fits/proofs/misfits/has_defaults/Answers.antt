-- `fits::misfits::has_defaults` meets its contract: the answer for the rows that are left is the answer.
-- Assumes nothing.
use mathlib.Core.Path.{ap}
use Rattle.resolve.specs.Rules.{some}
use Rattle.fits.specs.Types.{has_default}
use Rattle.fits.proofs.MisfitLaws.{rows_last, defaults_end, defaults_found, defaults_on}
use borrow.Author.Rules.{rules}
use Rattle.fits.proofs.misfits.has_defaults.Goals as goal

pub loop-i-init : goal.loop-i-init
loop-i-init c = (search rules, ap (some has_default) (rows_last _ c.args.start c.args.n))

pub returns-then-has_default : goal.returns-then-has_default
returns-then-has_default c = defaults_found _ _ _ c.loop-i.invariant.1 c.loop-i-test.true c.has_default.ensures c.if-has_default.true

pub loop-i-preserved : goal.loop-i-preserved
loop-i-preserved c = (search rules, defaults_on _ _ _ c.loop-i.invariant.1 c.loop-i-test.true c.has_default.ensures c.if-has_default.false)

pub returns : goal.returns
returns c = defaults_end _ _ _ c.loop-i.invariant.1 c.loop-i-test.false
