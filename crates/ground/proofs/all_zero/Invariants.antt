-- `ground::all_zero` meets its contract: the largest byte so far is 0, and what is left is zero, where the whole is.
-- Assumes nothing.
use mathlib.Core.Path.{◌≡◌}
use mathlib.Core.Bool.{◌&&◌}
use lib.Dec.{eqb}
use lib.ListN.{drop}
use Rattle.ground.specs.Bytes.{all_zero}
use Rattle.ground.proofs.all_zero.Given as goal

abbrev pub invariant-loop-b : goal.invariant-loop-b
invariant-loop-b l = all_zero l.s ≡ (eqb l.most 0 && all_zero (drop l.b-index l.s))
