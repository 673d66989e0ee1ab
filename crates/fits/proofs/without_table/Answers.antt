-- `fits::without_table` meets its contract: an empty table says nothing.
-- Assumes nothing.
use native.Mathlib.Omega.{arith}
use Rattle.fits.proofs.TableLaws.{true_zeros}
use Rattle.view.proofs.Laws.{known_none}
use Rattle.fits.proofs.without_table.Goals as goal

pub fits_at-requires : goal.fits_at-requires
fits_at-requires c = (c.requires.0, c.requires.1, known_none _ 0, true_zeros _ _ _ 0, c.requires.2, omega arith)

pub returns : goal.returns
returns c = (c.fits_at.ensures.0, c.fits_at.ensures.2)
