-- `walk::frames::block` meets its contract: the entries are pushed, with or without the place of their size.
-- Assumes nothing.
use Rattle.std.proofs.Common.{sym, ap, ◌∙◌, Ok}
use Rattle.walk.proofs.Laws.{exit}
use Rattle.walk.proofs.TurnLaws.{moved_room, block_plain, block_sized, block_err, long_numbered, long_read}
use Rattle.walk.proofs.frames.block.Goals as goal

pub returns-then-not-is_negative : goal.returns-then-not-is_negative
returns-then-not-is_negative c = λ m n list l. block_plain m n _ list _ _ _ c.requires.3 l c.requires.2 c.requires.0 _ (sym c.is_negative.ensures ∙ c.if-not-is_negative.true) c.absolute-count.ensures c.push.ensures (ap Ok c.deeper.ensures)

pub deeper-requires-2 : goal.deeper-requires-2
deeper-requires-2 c = moved_room c.args.here c.moved.ensures c.requires.2

pub returns-in_err-to : goal.returns-in_err-to
returns-in_err-to c = λ m n list l. block_err m n _ list _ _ _ c.requires.3 l c.requires.2 c.requires.0 _ (sym c.is_negative.ensures ∙ c.if-not-is_negative.false) (long_numbered _ _ c.long_at.ensures c.number.ensures c.in_err-to.was) (exit c.from_residual.ensures.1)

pub returns : goal.returns
returns c = λ m n list l. block_sized m n _ list _ _ _ c.requires.3 l c.requires.2 c.requires.0 _ (sym c.is_negative.ensures ∙ c.if-not-is_negative.false) c.requires.1 (long_read _ _ c.long_at.ensures c.number.ensures c.in_ok-to.was) c.absolute-count.ensures c.push-2.ensures c.moved.ensures (ap Ok c.deeper-2.ensures)
