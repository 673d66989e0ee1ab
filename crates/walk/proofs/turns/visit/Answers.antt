-- `walk::turns::visit` meets its contract: a step is taken, if one is left.
-- Assumes nothing.
use Rattle.std.proofs.Common.{refl, ap, arith, Err}
use Rattle.walk.proofs.DatumLaws.{step_bounded, step_listed, visit_spent, visit_nothing, visit_datum}
use Rattle.walk.proofs.turns.visit.Goals as goal

pub returns-then-here-eq0 : goal.returns-then-here-eq0
returns-then-here-eq0 c = (visit_spent _ _ _ _ _ _ c.requires.5 c.requires.6 c.requires.4 c.if-here-eq0.true (ap Err c.fault.ensures), c.requires.2, c.requires.3)

pub returns-then-n-row : goal.returns-then-n-row
returns-then-n-row c = (visit_nothing _ _ _ _ _ _ c.requires.5 c.requires.6 c.requires.4 c.if-here-eq0.false c.if-n-row.true refl, c.requires.2, c.requires.3)

pub datum-requires : goal.datum-requires
datum-requires c = (c.requires.0, c.requires.1, c.if-n-row.false, c.requires.2, c.requires.3, refl, omega arith, omega arith, step_bounded _ _ _ c.requires.5, step_listed _ _ c.requires.6)

pub returns : goal.returns
returns c = (visit_datum _ _ _ _ _ _ c.requires.5 c.requires.6 c.requires.4 c.if-here-eq0.false c.datum.ensures.0, c.datum.ensures.1, c.datum.ensures.2)
