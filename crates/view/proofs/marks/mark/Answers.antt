-- `view::marks::mark` meets its contract.
-- Assumes nothing.
use mathlib.Core.Path.{ap}
use mathlib.Core.Path.{◌∙◌}
use mathlib.Core.List.{List}
use Prim.Native.Nat.{ℕ}
use Rattle.view.specs.Marks.{mark_of}
use Rattle.view.proofs.marks.mark.Goals as goal

pub returns-in-Some : goal.returns-in-Some
returns-in-Some c = c.mark_of.ensures ∙ ap (λ (l : List ℕ). mark_of l) c.in-Some.ensures.string
