-- `walk::turns::symbol` meets its contract.
-- Assumes nothing.
use Rattle.std.proofs.Common.{refl, sym, ap, Ok, Err}
use Rattle.walk.proofs.Laws.{exit}
use Rattle.walk.proofs.DatumLaws.{enum_none, enum_to, enum_bad}
use Rattle.walk.proofs.turns.symbol.Goals as goal

pub returns-in_err-v : goal.returns-in_err-v
returns-in_err-v c = (λ frames list b l. enum_bad _ _ _ frames list _ _ c.requires.2 (sym c.requires.3) b l c.choice.ensures c.in_err-v.was (exit c.from_residual.ensures.1) refl, c.requires.4)

pub returns-then-n-part_number : goal.returns-then-n-part_number
returns-then-n-part_number c = (λ frames list b l. enum_none _ _ _ frames list _ _ c.requires.2 (sym c.requires.3) b l c.choice.ensures c.in_ok-v.was c.part_number.ensures.2 c.if-n-part_number.true (ap Err c.fault.ensures) refl, c.part_number.ensures.3)

pub returns : goal.returns
returns c = (λ frames list b l. enum_to _ _ _ frames list _ _ c.requires.2 (sym c.requires.3) b l c.choice.ensures c.in_ok-v.was c.part_number.ensures.2 c.if-n-part_number.false refl (ap Ok c.moved.ensures), c.part_number.ensures.3)
