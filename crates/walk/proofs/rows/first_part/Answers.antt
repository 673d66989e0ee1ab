-- `walk::rows::first_part` meets its contract.
-- Assumes nothing.
use Rattle.std.proofs.Common.{ap}
use Rattle.std.proofs.Common.{ℕ, ◌+◌}
use Rattle.walk.proofs.RowLaws.{part_depth}
use Rattle.walk.proofs.rows.first_part.Goals as goal

pub returns : goal.returns
returns c = part_depth _ _ (ap (λ (d : ℕ). d + 1) c.depth_at.ensures.0) c.next_part.ensures
