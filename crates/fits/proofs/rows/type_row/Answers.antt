-- `fits::rows::type_row` meets its contract: the type behind the rows that are left is the type.
-- Assumes nothing.
use mathlib.Core.Path.{refl}
use Rattle.fits.proofs.RowLaws.{type_end, type_here, type_on}
use Rattle.fits.proofs.rows.type_row.Goals as goal

pub loop-i-init : goal.loop-i-init
loop-i-init c = refl

pub returns-then-not-is_of : goal.returns-then-not-is_of
returns-then-not-is_of c = type_here _ _ _ c.loop-i.invariant c.loop-i-test.true c.is_of.ensures c.if-not-is_of.true

pub loop-i-preserved : goal.loop-i-preserved
loop-i-preserved c = type_on _ _ _ c.loop-i.invariant c.loop-i-test.true c.is_of.ensures c.if-not-is_of.false

pub returns : goal.returns
returns c = type_end _ _ _ c.loop-i.invariant c.loop-i-test.false
