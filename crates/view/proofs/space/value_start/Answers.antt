-- `view::space::value_start` meets its contract.
-- Assumes nothing.
use Rattle.view.proofs.space.value_start.Goals as goal

pub returns : goal.returns
returns c = c.skip.ensures
