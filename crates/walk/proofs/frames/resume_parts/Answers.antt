-- `walk::frames::resume_parts` meets its contract: the next part is to be visited, or the frame is popped.
-- Assumes nothing.
use Rattle.std.proofs.Common.{refl, ap, Ok}
use Rattle.walk.proofs.TurnLaws.{parts_end, parts_next}
use Rattle.walk.proofs.frames.resume_parts.Goals as goal

pub returns-then-n-part : goal.returns-then-n-part
returns-then-n-part c = (λ list l. parts_end _ _ _ list _ _ c.requires.5 l c.requires.4 c.requires.3 c.requires.6 c.follower-part.ensures.0 c.if-n-part.true (ap Ok c.popped.ensures), c.follower-part.ensures.1)

pub returns : goal.returns
returns c = (λ list l. parts_next _ _ _ list _ _ c.requires.5 l c.requires.4 c.requires.3 c.requires.6 c.follower-part.ensures.0 c.requires.1 c.if-n-part.false refl (ap Ok c.moved.ensures), c.follower-part.ensures.1)
