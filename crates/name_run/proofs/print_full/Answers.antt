-- `name_run::print_full` is safe and ends: the length that is answered is at most that of the buffer. Assumes nothing.
use mathlib.Core.Path.{refl}
use Rattle.name.proofs.Laws.{fits_room}
use Rattle.name_run.proofs.print_full.Goals as goal

pub slice_bounds-print_bytes-end : goal.slice_bounds-print_bytes-end
slice_bounds-print_bytes-end c = fits_room _ _ _ _ c.full_name.ensures.0 c.full_name.ensures.1 _ c.in-Some.is refl
