-- `walk::frames::end_block` meets its contract: the size is right and a header comes, or it is wrong.
-- Assumes nothing.
use Rattle.std.proofs.Common.{refl, sym, ap, ◌∙◌, Err}
use Rattle.walk.proofs.TurnLaws.{popped_none, popped_bounded, popped_listed, ended_on, ended_wrong}
use Rattle.walk.proofs.frames.end_block.Goals as goal

pub returns-then-not-is_right : goal.returns-then-not-is_right
returns-then-not-is_right c = λ m n list l. ended_wrong m n _ list _ _ c.requires.3 l c.requires.2 c.requires.1 c.requires.4 c.requires.0 c.requires.5 refl (sym c.is_right.ensures ∙ c.if-not-is_right.true) (ap Err c.fault.ensures)

pub header-requires : goal.header-requires
header-requires c = (c.requires.0, popped_none c.args.here c.popped.ensures, popped_bounded c.args.here c.popped.ensures c.requires.3)

pub returns : goal.returns
returns c = λ m n list l. ended_on m n _ list _ _ c.requires.3 l c.requires.2 c.requires.1 c.requires.4 c.requires.0 c.requires.5 refl c.popped.ensures (c.header.ensures m n list (popped_listed c.args.here c.popped.ensures l)) (sym c.is_right.ensures ∙ c.if-not-is_right.false)
