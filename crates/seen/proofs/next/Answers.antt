-- `seen::next` meets its contract.
-- Assumes nothing.
use mathlib.Core.Path.{refl}
use Rattle.seen.proofs.Laws.{next_fits}
use native.Mathlib.Omega.{arith}
use Rattle.seen.proofs.next.Goals as goal

pub overflow_mul-distance-2 : goal.overflow_mul-distance-2
overflow_mul-distance-2 c = let z = next_fits c.args.size c.args.mark in omega arith

pub overflow_add-result : goal.overflow_add-result
overflow_add-result c = let z = next_fits c.args.size c.args.mark in omega arith

pub returns : goal.returns
returns c = (refl, omega arith)
