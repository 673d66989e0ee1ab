-- `declare::sequence::answer_sequence` is safe: the set's memory and the buffer keep their lengths.
-- Assumes nothing.
use mathlib.Core.Path.{◌≡◌}
use lib.ListN.{length}
use Rattle.declare.proofs.sequence.answer_sequence.Given as goal

abbrev pub invariant-loop : goal.invariant-loop
invariant-loop l = (length l.buf ≡ length l.initial.buf) × (length l.mem ≡ length l.initial.mem)
