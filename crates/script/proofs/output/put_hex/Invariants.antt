-- `script::output::put_hex` meets its contract: what is put after the pairs so far gives the whole.
-- Assumes nothing.
use lib.ListN.{drop}
use Rattle.script.specs.Hex.{pairs_of, hex_of}
use Rattle.script.proofs.HexLaws.{Rest}
use Rattle.script.proofs.output.put_hex.Given as goal

abbrev pub invariant-loop-b : goal.invariant-loop-b
invariant-loop-b l = Rest l.out l.end (pairs_of (drop l.b-index l.s)) l.initial.out l.at (hex_of l.s)
