-- `walk::rows::part_number` meets its contract: among the parts that are left it is the part with the number that is left.
-- Assumes nothing.
use Rattle.std.proofs.Common.{◌≡◌, ◌+◌, ◌-◌, length}
use Rattle.walk.proofs.RowLaws.{Counting}
use Rattle.row.specs.Memory.{entry_at}
use Rattle.walk.specs.Steps.{Follows}
use Rattle.walk.proofs.rows.part_number.Given as goal

abbrev pub invariant-loop : goal.invariant-loop
invariant-loop l =
    Counting l.mem l.n ((entry_at l.mem l.i).depth + 1) (l.i + 1) l.number l.r (l.number - l.counter) × Follows l.mem l.n l.next × (length l.next ≡ length l.initial.next)
