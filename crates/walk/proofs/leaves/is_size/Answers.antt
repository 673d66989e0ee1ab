-- `walk::leaves::is_size` meets its contract.
-- Assumes nothing.
use mathlib.Core.Logic.{⊎_elim}
use Rattle.walk.proofs.LeafLaws.{size_err, size_negative, size_behind, size_asked}
use Rattle.walk.proofs.leaves.is_size.Goals as goal

pub returns-in_default : goal.returns-in_default
returns-in_default c = size_err _ _ c.long_at.ensures _ c.in_default.is

pub returns-then-is_negative : goal.returns-then-is_negative
returns-then-is_negative c =
    ⊎_elim (λ e. size_negative _ _ c.long_at.ensures _ c.in-Ok.is c.is_negative.ensures e)
    (λ e. size_behind _ _ c.long_at.ensures _ c.in-Ok.is c.is_negative.ensures e.0 e.1) c.then-is_negative.either

pub returns : goal.returns
returns c = size_asked _ _ c.long_at.ensures _ c.in-Ok.is c.is_negative.ensures c.if-is_negative.false c.if-to-from.false c.absolute.ensures
