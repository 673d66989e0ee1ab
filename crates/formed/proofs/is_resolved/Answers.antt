-- `formed::is_resolved` meets its contract: behind no rows the first fault is that of all.
-- Assumes nothing.
use mathlib.Core.Path.{◌∙◌}
use Rattle.formed.proofs.DecodeLaws.{resolved_start}
use Rattle.formed.proofs.is_resolved.Goals as goal

pub returns : goal.returns
returns c = c.is_ok.ensures.value ∙ resolved_start _ _ _ c.first_fault.ensures
