-- `view::strings::escape_at` meets its contract: a letter, a surrogate pair, or one unit.
-- Assumes nothing.
use mathlib.Core.Path.{refl, ◌∙◌}
use native.Mathlib.Omega.{arith}
use Rattle.view.proofs.Undone.{part_letter, part_single, part_pair}
use Rattle.view.proofs.strings.escape_at.Goals as goal

pub returns-then-c-ne117 : goal.returns-then-c-ne117
returns-then-c-ne117 c = record { is = part_letter _ _ c.requires.1 c.byte_at-c.ensures c.if-c-ne117.true c.short.ensures; some = omega arith; few = omega arith; four = refl }

pub returns-then-u-eq54 : goal.returns-then-u-eq54
returns-then-u-eq54 c = record { is = c.utf8-2.ensures.is ∙ part_pair _ _ c.requires.1 c.byte_at-c.ensures c.if-c-ne117.false c.unit-u.ensures.0 c.if-u-eq54.true c.unit-l.ensures.0; some = c.utf8-2.ensures.some; few = c.utf8-2.ensures.few; four = c.utf8-2.ensures.four }

pub returns : goal.returns
returns c = record { is = c.utf8-2.ensures.is ∙ part_single _ _ c.requires.1 c.byte_at-c.ensures c.if-c-ne117.false c.unit-u.ensures.0 c.if-u-eq54.false; some = c.utf8-2.ensures.some; few = c.utf8-2.ensures.few; four = c.utf8-2.ensures.four }
