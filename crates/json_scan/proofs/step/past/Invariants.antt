-- `json_scan::past` meets its contract: each byte that was passed is of the class, and leaves a mode as it was that the class leaves so.
-- Assumes nothing.
use mathlib.Core.Path.{◌≡◌}
use mathlib.Core.Bool.{Bool}
use Prim.Native.Nat.{ℕ, ◌≤◌, max}
use lib.ListN.{length}
use Rattle.json_scan.specs.Json.{Mode, Stack}
use Rattle.json_scan.specs.Meets.{run_at, Stays}
use Rattle.json_scan.proofs.step.past.Given as goal

abbrev pub invariant-loop-at : goal.invariant-loop-at
invariant-loop-at g l =
    (l.at ≤ max l.from (length l.text))
    × ((c : ℕ → Bool) → ((b : ℕ) (r : Bool) → goal.F-post g l.is b r → r ≡ c b) → (m : Mode) → Stays c m → (k : Stack) → run_at l.text m k l.from ≡ run_at l.text m k l.at)
