-- `schema_run::run` is safe: the input's buffer keeps its length.
-- Assumes nothing.
use mathlib.Core.Path.{◌≡◌}
use lib.ListN.{length}
use Rattle.schema_run.proofs.run.Given as goal

abbrev pub invariant-loop : goal.invariant-loop
invariant-loop l = length l.input ≡ length l.initial.input
