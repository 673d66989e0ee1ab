-- `resolve::names::definition_of` meets its contract: the definition among the rows that are left is the definition.
-- Assumes nothing.
use Prim.Native.Nat.{◌-◌}
use mathlib.Core.Path.{◌≡◌}
use Rattle.resolve.specs.Resolve.{definition_in}
use Rattle.row.specs.Sets.{rows_from}
use Rattle.row.specs.Memory.{text_at}
use Rattle.resolve.proofs.names.definition_of.Given as goal

abbrev pub invariant-loop-d : goal.invariant-loop-d
invariant-loop-d l = definition_in (text_at l.mem l.i) (rows_from l.mem l.n 0) ≡ definition_in (text_at l.mem l.i) (rows_from l.mem (l.n - l.d) l.d)
