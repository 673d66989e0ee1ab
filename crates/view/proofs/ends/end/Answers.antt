-- `view::ends::end` meets its contract.
-- Assumes nothing.
use Rattle.view.proofs.Known.{known_end}
use Rattle.view.proofs.ends.end.Goals as goal

pub returns-then-e-gt0 : goal.returns-then-e-gt0
returns-then-e-gt0 c = known_end c.requires _ c.known-e.ensures c.if-e-gt0.true
