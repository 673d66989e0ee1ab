-- `row::write::write_row` meets its contract: the row's bytes are stored.
-- Assumes nothing.
use mathlib.Core.Path.{ap, ◌∙◌}
use Rattle.ground.specs.Bytes.{store}
use Rattle.row.proofs.write.write_row.Goals as goal

pub returns : goal.returns
returns c = c.copy.ensures ∙ ap (store _ _) c.bytes_of-bytes.ensures
