-- `view::literals::strings_same` meets its contract.
-- Assumes nothing.
use mathlib.Core.Path.{ap}
use mathlib.Core.Path.{◌∙◌}
use mathlib.Core.List.{List}
use Prim.Native.Nat.{ℕ}
use Rattle.view.specs.Strings.{string_at}
use Rattle.ground.specs.Bytes.{same}
use Rattle.view.proofs.literals.strings_same.Goals as goal

pub returns-in-Some : goal.returns-in-Some
returns-in-Some c = c.string_is.ensures ∙ ap (λ (l : List ℕ). same (string_at c.args.text.now c.args.one) l) c.in-Some.ensures.string
