-- `canonical::text::comma` meets its contract: nothing, or one byte.
-- Assumes nothing.
use mathlib.Core.Path.{sym, ap}
use Rattle.canonical.proofs.WriteLaws.{wrote_none, wrote_eq}
use Rattle.canonical.proofs.WalkLaws.{comma as commaOf}
use Rattle.canonical.proofs.text.comma.Goals as goal

pub returns-then-first : goal.returns-then-first
returns-then-first c = wrote_eq (sym (ap commaOf c.if-first.true)) (wrote_none _ _)

pub returns-else-first : goal.returns-else-first
returns-else-first c = wrote_eq (sym (ap commaOf c.if-first.false)) c.put.ensures
