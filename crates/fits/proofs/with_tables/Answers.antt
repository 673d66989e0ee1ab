-- `fits::with_tables` meets its contract.
-- Assumes nothing.
use native.Mathlib.Omega.{arith}
use Rattle.fits.proofs.TableLaws.{place_few}
use Rattle.view.proofs.Laws.{known_none}
use Rattle.fits.proofs.with_tables.Goals as goal

pub find_ends-requires : goal.find_ends-requires
find_ends-requires c = (omega (arith, c.requires.2), known_none _ 256)

pub overflow_mul-size : goal.overflow_mul-size
overflow_mul-size c = omega (arith, place_few _ _ c.requires.2 c.requires.1)
