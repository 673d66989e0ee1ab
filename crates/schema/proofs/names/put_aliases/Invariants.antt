-- `schema::names::put_aliases` meets its contract: what the rows that are left make of the draft, all make of the first.
-- Assumes nothing.
use Rattle.schema.specs.Schema.{alias_rows}
use Rattle.schema.specs.Did.{Did}
use Rattle.schema.specs.Out.{each, Walked}
use Rattle.view.specs.Elements.{elements_at}
use lib.ListN.{length}
use Prim.Native.Nat.{ℕ}
use mathlib.Core.List.{List}
use mathlib.Core.Path.{◌≡◌}
use Rattle.schema.proofs.names.put_aliases.Given as goal

abbrev pub invariant-loop-spot : goal.invariant-loop-spot
invariant-loop-spot l = (length l.draft ≡ length l.initial.draft)
    × ((m : List ℕ) (r : Walked) → Did l.draft l.sum m r (each (alias_rows l.text l.namespace l.depth) (elements_at l.text l.spot)) → Did l.initial.draft l.initial.sum m r (each (alias_rows l.text l.namespace l.depth) (elements_at l.text l.initial.spot)))

abbrev pub decreases-loop-spot : goal.decreases-loop-spot
decreases-loop-spot l = length (elements_at l.text l.spot)
