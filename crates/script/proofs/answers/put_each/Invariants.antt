-- `script::answers::put_each` meets its contract: what is put after the rows so far gives the whole.
-- Assumes nothing.
use Prim.Native.Nat.{◌+◌, ◌-◌}
use Rattle.script.specs.Lines.{row_lines}
use Rattle.script.proofs.HexLaws.{Rest}
use Rattle.script.proofs.answers.put_each.Given as goal

abbrev pub invariant-loop-i : goal.invariant-loop-i
invariant-loop-i l = Rest l.out l.end (row_lines l.mem (l.start + l.n - l.i) l.i) l.initial.out l.at (row_lines l.mem l.n l.start)
