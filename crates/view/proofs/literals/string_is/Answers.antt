-- `view::literals::string_is` meets its contract.
-- Assumes nothing.
use mathlib.Core.Path.{ap}
use mathlib.Core.Path.{◌∙◌}
use mathlib.Core.List.{List}
use Prim.Native.Nat.{ℕ}
use Rattle.ground.specs.Bytes.{same}
use Rattle.view.proofs.literals.string_is.Goals as goal

pub returns-in-Some : goal.returns-in-Some
returns-in-Some c = c.same.ensures ∙ ap (λ (l : List ℕ). same l c.args.word.now) c.in-Some.ensures.string
