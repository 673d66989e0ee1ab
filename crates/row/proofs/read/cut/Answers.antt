-- `row::read::cut` meets its contract: the part from the place on, no longer than what is left.
-- Assumes nothing.
use native.Mathlib.Omega.{arith}
use Rattle.row.proofs.ReadLaws.{cut_is, lies}
use Rattle.row.proofs.read.cut.Goals as goal

pub returns : goal.returns
returns c = (cut_is _ _ _ _ _ c.min-from.ensures c.min-n.ensures, lies _ (omega arith))
