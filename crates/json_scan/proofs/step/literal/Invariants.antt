-- `json_scan::literal` meets its contract. Assumes nothing.
use mathlib.Core.Path.{◌≡◌}
use Prim.Native.Nat.{◌≤◌, ◌<◌}
use lib.ListN.{length, drop}
use Rattle.json_scan.specs.Json.{Stack, spelt}
use Rattle.json_scan.specs.Meets.{run_at}
use Rattle.json_scan.proofs.step.literal.Given as goal

abbrev pub invariant-loop-x : goal.invariant-loop-x
invariant-loop-x l = (l.from ≤ l.at) × (0 < l.x-index → (l.from < l.at) × (l.at ≤ length l.text)) × ((k : Stack) → run_at l.text (spelt l.word) k l.from ≡ run_at l.text (spelt (drop l.x-index l.word)) k l.at)
