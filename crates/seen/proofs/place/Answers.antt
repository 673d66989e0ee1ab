-- `seen::place` meets its contract.
-- Assumes nothing.
use mathlib.Core.Path.{refl}
use Rattle.seen.specs.Seen.{place_in}
use Rattle.seen.proofs.Laws.{place_below, place_product}
use native.Mathlib.Omega.{arith}
use Rattle.seen.proofs.place.Goals as goal

pub overflow_mul-result : goal.overflow_mul-result
overflow_mul-result c = let z = place_product c.args.size c.args.x c.requires.0 c.requires.2 in omega arith

pub returns : goal.returns
unfolding place_in
returns c = (refl, place_below c.args.size c.args.x c.requires.0 c.requires.2)
