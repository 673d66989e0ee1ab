-- `fits::with_table` meets its contract: a table of zeros says nothing.
-- Assumes nothing.
use native.Mathlib.Omega.{arith}
use Rattle.fits.proofs.TableLaws.{true_zeros}
use Rattle.fits.proofs.with_table.Goals as goal

pub whole_as_slice-fits_at : goal.whole_as_slice-fits_at
whole_as_slice-fits_at g c = omega (arith, c.requires.4)

pub fits_at-requires : goal.fits_at-requires
fits_at-requires g c = (c.requires.0, c.requires.1, c.requires.2, true_zeros _ _ _ g.row.N, c.requires.3, omega arith)

pub returns : goal.returns
returns g c = (c.fits_at.ensures.0, c.fits_at.ensures.2)
