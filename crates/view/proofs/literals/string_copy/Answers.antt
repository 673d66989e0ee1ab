-- `view::literals::string_copy` meets its contract.
-- Assumes nothing.
use mathlib.Core.Path.{ap}
use mathlib.Core.Path.{◌∙◌}
use mathlib.Core.List.{List}
use Prim.Native.Nat.{ℕ}
use lib.ListN.{length}
use Rattle.ground.specs.Bytes.{store}
use Rattle.view.proofs.literals.string_copy.Goals as goal

pub returns-in-Some : goal.returns-in-Some
returns-in-Some c = (ap length c.in-Some.ensures.string, c.copy.ensures ∙ ap (λ (l : List ℕ). store c.args.out.now 0 l) c.in-Some.ensures.string)
