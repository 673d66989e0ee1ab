-- `view::strings::part_at` meets its contract.
-- Assumes nothing.
use mathlib.Core.Path.{refl}
use native.Mathlib.Omega.{arith}
use Rattle.view.proofs.Undone.{part_plain}
use Rattle.view.proofs.strings.part_at.Goals as goal

pub returns : goal.returns
returns c = record { is = part_plain _ _ c.byte_at-b.ensures c.if-b-eq92.false; some = omega arith; few = omega arith; four = refl }
