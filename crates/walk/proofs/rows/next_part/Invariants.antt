-- `walk::rows::next_part` meets its contract: the parts among the rows that are left are the parts.
-- Assumes nothing.
use mathlib.Core.Path.{◌≡◌}
use Rattle.walk.specs.Parts.{parts_at}
use Rattle.walk.specs.Steps.{type_at}
use Rattle.walk.proofs.rows.next_part.Given as goal

abbrev pub invariant-loop-i : goal.invariant-loop-i
invariant-loop-i l = parts_at l.depth (type_at l.mem l.n l.i) ≡ parts_at l.depth (type_at l.mem l.n l.start)
