-- `walk::frames::header` meets its contract: a step is taken, and the count says whether there is a block.
-- Assumes nothing.
use Rattle.std.proofs.Common.{refl, ap, arith, Err}
use Rattle.walk.proofs.Laws.{exit}
use Rattle.walk.proofs.TurnLaws.{long_numbered, long_read, number_listed, number_bounded, number_behind, header_none, header_end, header_block, header_err}
use Rattle.walk.proofs.frames.header.Goals as goal

pub returns-then-here-eq0 : goal.returns-then-here-eq0
returns-then-here-eq0 c = λ m n list l. header_none m n _ list _ _ _ c.requires.2 l c.if-here-eq0.true (ap Err c.fault.ensures)

pub returns-in_err-v : goal.returns-in_err-v
returns-in_err-v c = λ m n list l. header_err m n _ list _ _ _ c.requires.2 l c.if-here-eq0.false (long_numbered _ _ c.long_at.ensures c.number.ensures c.in_err-v.was) (exit c.from_residual.ensures.1)

pub returns-then-v-eq0 : goal.returns-then-v-eq0
returns-then-v-eq0 c = λ m n list l. header_end m n _ list _ _ _ c.requires.2 l c.if-here-eq0.false c.requires.1 (long_read _ _ c.long_at.ensures c.number.ensures c.in_ok-v.was) c.if-v-eq0.true refl

pub block-requires : goal.block-requires
block-requires c = let q = long_read _ _ c.long_at.ensures c.number.ensures c.in_ok-v.was in (c.requires.0, number_behind _ _ q, omega arith, number_bounded _ _ _ c.requires.2 q)

pub returns : goal.returns
returns c = λ m n list l. let q = long_read _ _ c.long_at.ensures c.number.ensures c.in_ok-v.was in header_block m n _ list _ _ _ c.requires.2 l c.if-here-eq0.false c.requires.1 q c.if-v-eq0.false (c.block.ensures m n list (number_listed list _ _ l))
