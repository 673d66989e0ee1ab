-- `breach::places::breach_from` meets its contract. The invariant: from here on the rule that is left breaks where the whole does.
-- Assumes nothing.
use mathlib.Core.Path.{◌≡◌}
use mathlib.Core.Bool.{cond}
use Prim.Native.Nat.{◌-◌}
use lib.ListN.{length}
use Rattle.name.specs.Name.{is_simple, is_dotted}
use Rattle.name.proofs.Bytewise.{keeps}
use Rattle.breach.proofs.Turns.{breach}
use Rattle.breach.proofs.places.breach_from.Given as goal

abbrev pub invariant-loop-x : goal.invariant-loop-x
invariant-loop-x l = breach (keeps l.dots l.first) l.text l.p ≡ breach (cond l.dots is_dotted is_simple) l.text l.at

abbrev pub decreases-loop-x : goal.decreases-loop-x
decreases-loop-x l = length l.text - l.p
