-- `walk::frames::push` meets its contract.
-- Assumes nothing.
use Rattle.std.proofs.Common.{refl}
use Rattle.walk.specs.Steps.{pushed}
use Rattle.walk.proofs.frames.push.Goals as goal

pub returns : goal.returns
unfolding pushed
returns c = refl
