-- `walk::turns::record_at` meets its contract: a frame keeps the place of the first part, or there is none.
-- Assumes nothing.
use Rattle.std.proofs.Common.{refl, sym, ap, Ok}
use Rattle.walk.proofs.DatumLaws.{record_end, record_next}
use Rattle.walk.proofs.turns.record_at.Goals as goal

pub returns-then-n-part : goal.returns-then-n-part
returns-then-n-part c = λ list l. record_end _ _ _ _ list _ _ c.requires.2 (sym c.requires.3) c.requires.6 l refl c.first_part-part.ensures c.requires.5 c.if-n-part.true refl

pub returns : goal.returns
returns c = λ list l. record_next _ _ _ _ list _ _ c.requires.2 (sym c.requires.3) c.requires.6 l refl c.first_part-part.ensures c.requires.1 c.requires.4 c.if-n-part.false c.push.ensures (ap Ok c.deeper.ensures)
