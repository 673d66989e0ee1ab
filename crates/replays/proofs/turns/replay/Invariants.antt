-- `replays::turns::replay` meets its contract: the input's buffer keeps its length, and no more of the memory is lent than there is.
-- Assumes nothing.
use mathlib.Core.Path.{◌≡◌}
use Prim.Native.Nat.{◌≤◌}
use lib.ListN.{length}
use Rattle.replays.proofs.turns.replay.Given as goal

abbrev pub invariant-loop : goal.invariant-loop
invariant-loop l = (length l.input ≡ length l.initial.input) × (l.lent ≤ length l.memory)
