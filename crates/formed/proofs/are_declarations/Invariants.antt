-- `formed::are_declarations` meets its contract: the answer for the places that are left is the answer.
-- Assumes nothing.
use mathlib.Core.Path.{◌≡◌}
use Prim.Native.Nat.{◌+◌, ◌-◌, ◌≤◌}
use Rattle.name.specs.Name.{every}
use Rattle.row.specs.Layout.{row_limit}
use Rattle.row.specs.Sets.{decode}
use Rattle.resolve.specs.Rules.{is_declaration}
use Rattle.resolve.specs.Steps.{Sized}
use Rattle.formed.proofs.DecodeLaws.{rows_left, left}
use Rattle.formed.proofs.are_declarations.Given as goal

abbrev pub invariant-loop-place : goal.invariant-loop-place
invariant-loop-place l = (l.start + rows_left l.mem l.place (l.n - l.place) ≤ row_limit) × (every is_declaration (decode l.mem) ≡ every is_declaration (left l.mem l.place (l.n - l.place) l.start)) × Sized l.first l.next
