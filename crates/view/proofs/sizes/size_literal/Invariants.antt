-- `view::sizes::size_literal` meets its contract.
-- Assumes nothing.
use Rattle.view.specs.Size.{size_from, size_of}
use lib.ListN.{length, drop}
use Prim.Native.Nat.{◌<◌, ◌≤◌, max}
use mathlib.Core.Path.{◌≡◌}
use Rattle.view.proofs.sizes.size_literal.Given as goal

abbrev pub invariant-loop-p : goal.invariant-loop-p
invariant-loop-p l = (l.p ≤ max l.at (length l.text)) × (l.v < 18446744073709551616) × (size_from l.v (drop l.p l.text) ≡ size_of l.text l.at)
