-- `view::strings::unit` meets its contract.
-- Assumes nothing.
use Rattle.view.specs.Strings.{unit_at}
use native.Mathlib.Omega.{arith}
use Rattle.view.proofs.strings.unit.Goals as goal

pub returns : goal.returns
unfolding unit_at
returns c = (cc, omega arith)
