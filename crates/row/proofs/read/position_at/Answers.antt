-- `row::read::position_at` meets its contract: two bytes of the row.
-- Assumes nothing.
use mathlib.Core.Path.{◌∙◌}
use Rattle.row.proofs.ReadLaws.{read_position}
use Rattle.row.proofs.read.position_at.Goals as goal

pub returns : goal.returns
returns c = read_position _ c.args.i (c.from.ensures ∙ c.u16_at.ensures)
