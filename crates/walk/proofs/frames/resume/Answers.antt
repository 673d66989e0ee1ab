-- `walk::frames::resume` meets its contract: the last frame is of parts, of a block that has ended, or of one with an entry left.
-- Assumes nothing.
use Rattle.walk.proofs.frames.resume.Goals as goal

pub returns-then-frames-top-eq0 : goal.returns-then-frames-top-eq0
returns-then-frames-top-eq0 c = (λ list l. c.end_block.ensures _ _ list l, c.requires.2)
