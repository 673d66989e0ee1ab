-- `view::strings::plain_end` meets its contract: a run of bytes that stand for themselves.
-- Assumes nothing.
use Prim.Native.Nat.{◌-◌}
use lib.ListN.{length}
use Rattle.view.specs.Strings.{Plainly}
use Rattle.view.proofs.strings.plain_end.Given as goal

abbrev pub invariant-loop-p : goal.invariant-loop-p
invariant-loop-p l = Plainly l.text l.at l.p

abbrev pub decreases-loop-p : goal.decreases-loop-p
decreases-loop-p l = length l.text - l.p
