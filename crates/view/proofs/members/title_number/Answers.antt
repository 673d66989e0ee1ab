-- `view::members::title_number` meets its contract: as it stands in the text, or read.
-- Assumes nothing.
use mathlib.Core.Path.{ap, ◌∙◌}
use mathlib.Core.List.{List}
use Prim.Native.Nat.{ℕ}
use Rattle.view.specs.Members.{title_number}
use Rattle.view.proofs.members.title_number.Goals as goal

pub returns-in-Some : goal.returns-in-Some
returns-in-Some c = c.title_of.ensures ∙ ap (λ (l : List ℕ). title_number l) c.in-Some.ensures.string
