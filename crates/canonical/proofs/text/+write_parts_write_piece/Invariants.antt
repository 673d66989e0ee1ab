-- `canonical::text`'s `write_parts` and `write_piece` meet their contracts: of the texts of the parts, what is written so far and what is left; and a row's three pieces one behind the other.
-- Assumes nothing.
use Prim.Native.Nat.{◌+◌, ◌*◌}
use Rattle.canonical.specs.Walk.{parts_text}
use Rattle.canonical.proofs.WalkLaws.{over}
use Rattle.canonical.proofs.WriteLaws.{Sofar}
use Rattle.canonical.proofs.text.+write_parts_write_piece.Given as goal

abbrev pub decreases-write_parts : goal.decreases-write_parts
decreases-write_parts l = 2 * l.left + 1

abbrev pub decreases-write_piece : goal.decreases-write_piece
decreases-write_piece l = 2 * l.left

abbrev pub invariant-write_parts-loop-i : goal.invariant-write_parts-loop-i
invariant-write_parts-loop-i l = Sofar l.initial.part l.part l.at (parts_text l.mem l.left l.start l.end l.depth) (over l.mem l.left l.end l.depth l.first l.i)
