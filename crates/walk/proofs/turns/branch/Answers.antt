-- `walk::turns::branch` meets its contract: there is such a member and its offset is given, or there is none.
-- Assumes nothing.
use Rattle.std.proofs.Common.{refl, sym, ap, Ok, Err}
use Rattle.walk.proofs.Laws.{exit}
use Rattle.walk.proofs.DatumLaws.{union_none, union_to, union_bad}
use Rattle.walk.proofs.turns.branch.Goals as goal

pub returns-in_err-v : goal.returns-in_err-v
returns-in_err-v c = (λ frames b. union_bad _ _ _ frames _ _ _ c.requires.2 (sym c.requires.3) b c.requires.7 c.choice.ensures c.in_err-v.was (exit c.from_residual.ensures.1) refl, c.requires.4)

pub returns-then-n-part : goal.returns-then-n-part
returns-then-n-part c = (λ frames b. union_none _ _ _ frames _ _ _ c.requires.2 (sym c.requires.3) b c.requires.7 c.choice.ensures c.in_ok-v.was c.part_number-part.ensures.2 c.if-n-part.true (ap Err c.fault.ensures) refl, c.part_number-part.ensures.3)

pub returns : goal.returns
returns c = (λ frames b. union_to _ _ _ frames _ _ _ c.requires.2 (sym c.requires.3) b c.requires.7 c.choice.ensures c.in_ok-v.was c.part_number-part.ensures.2 c.if-n-part.false refl c.requires.1 c.requires.5 c.part_number-part.ensures.1 c.given.ensures.1 (ap Ok c.given.ensures.0), c.part_number-part.ensures.3)
