-- The proof of the cycle of calls {array, object, value}. The measure is twice the brackets that may be opened, and one more for `array` and `object`.
-- Assumes nothing.
use Prim.Native.Nat.{◌+◌, ◌-◌}
use lib.ListN.{length}
use Rattle.json_scan.specs.Json.{square, brace}
use Rattle.json_scan.proofs.Items.{SoFar}
use Rattle.json_scan.proofs.value.+array_object_value.Given as goal

abbrev pub decreases-array : goal.decreases-array
decreases-array l = l.left + l.left + 1

abbrev pub decreases-object : goal.decreases-object
decreases-object l = l.left + l.left + 1

abbrev pub decreases-value : goal.decreases-value
decreases-value l = l.left + l.left

abbrev pub invariant-array-loop-e : goal.invariant-array-loop-e
invariant-array-loop-e l = SoFar l.text l.from l.left square l.at

abbrev pub decreases-array-loop-e : goal.decreases-array-loop-e
decreases-array-loop-e l = length l.text - l.at

abbrev pub invariant-object-loop-v : goal.invariant-object-loop-v
invariant-object-loop-v l = SoFar l.text l.from l.left brace l.at

abbrev pub decreases-object-loop-v : goal.decreases-object-loop-v
decreases-object-loop-v l = length l.text - l.at
