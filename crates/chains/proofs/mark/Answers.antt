-- `chains::mark` meets its contract.
-- Assumes nothing.
use mathlib.Core.Path.{ap, ◌∙◌}
use Prim.Native.Nat.{◌<◌}
use native.Mathlib.Omega.{arith}
use lib.ListN.{length}
use Rattle.chains.specs.Marks.{spread}
use Rattle.chains.proofs.Numbers.{first_eight, last_eight, mark_short, mark_long}
use Rattle.chains.proofs.mark.Goals as goal
use Rattle.chains.proofs.mark.Goals.{in_default-via-in-Some+in_default, in_default-via-in_default}

pub returns-in_default : goal.returns-in_default
returns-in_default c =
    let l : length c.args.s.now < 8 = elim c.in_default.branch [ in_default-via-in-Some+in_default w ↦ omega (arith, w.in_default.ensures'.cases) | in_default-via-in_default w ↦ omega (arith, w.in_default.ensures.cases) ] in
    mark_short _ _ l (c.spread.ensures.0 ∙ ap spread c.short.ensures)

pub returns : goal.returns
returns c =
    mark_long c.args.s.now _ _ (omega (arith, c.in-Some-Some.ensures.cases.enough))
    (c.spread-2.ensures.0 ∙ ap spread (c.from_le_bytes.ensures ∙ first_eight _ _ c.in-Some-Some.ensures.cases))
    (c.spread-3.ensures.0 ∙ ap spread (c.from_le_bytes-2.ensures ∙ last_eight _ _ c.in-Some-Some.ensures'.cases.1))
