-- `breach::places::is_end` meets its contract.
-- Assumes nothing.
use mathlib.Core.Path.{ap, ◌∙◌}
use Prim.Native.Nat.{ℕ}
use Rattle.view.specs.Strings.{is_stop}
use Rattle.breach.proofs.places.is_end.Goals as goal

pub returns : goal.returns
returns c = c.is_stop.ensures ∙ ap (λ (x : ℕ). is_stop x) c.byte_at.ensures
