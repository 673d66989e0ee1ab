-- `fits::definitions::keep` meets its contract.
-- Assumes nothing.
use mathlib.Core.Path.{sym}
use lib.Seq.{set_out}
use Rattle.fits.proofs.definitions.keep.Goals as goal

pub returns-else-row-found : goal.returns-else-row-found
returns-else-row-found c = sym (set_out _ _ _ c.if-row-found.false)
