-- `walk::frames::resume_entry` meets its contract: one entry less is left, and its datum is to be visited behind the key.
-- Assumes nothing.
use Rattle.std.proofs.Common.{refl, ap, Ok}
use Rattle.walk.proofs.Laws.{exit}
use Rattle.walk.proofs.TurnLaws.{entry_to, entry_bad}
use Rattle.walk.proofs.frames.resume_entry.Goals as goal

pub returns-in_err-to : goal.returns-in_err-to
returns-in_err-to c = λ list l. entry_bad _ _ _ list _ _ c.requires.5 l c.requires.4 c.requires.3 c.requires.6 c.requires.2 c.requires.7 refl c.key.ensures c.in_err-to.was (exit c.from_residual.ensures.1)

pub returns : goal.returns
returns c = λ list l. entry_to _ _ _ list _ _ c.requires.5 l c.requires.4 c.requires.3 c.requires.6 c.requires.2 c.requires.7 refl c.key.ensures c.requires.1 c.in_ok-to.was c.inside.ensures.0 c.inside.ensures.1 (ap Ok c.moved.ensures)
