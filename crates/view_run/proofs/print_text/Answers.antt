-- `view_run::print_text` is safe and ends.
-- Assumes nothing.
use Rattle.view.proofs.Laws.{known_none}
use Rattle.view_run.proofs.print_text.Goals as goal

pub find_ends-requires : goal.find_ends-requires
find_ends-requires c = (c.requires, known_none _ 1024)
