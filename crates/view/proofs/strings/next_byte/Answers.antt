-- `view::strings::next_byte` meets its contract: the text's byte, or a byte of an escape.
-- Assumes nothing.
use mathlib.Core.Path.{refl, sym, ◌∙◌}
use native.Mathlib.Omega.{arith}
use Rattle.view.proofs.Undone.{stop_in, read_stop, read_plain, read_more, read_last, here}
use Rattle.view.proofs.strings.next_byte.Goals as goal

pub returns-then-is_stop : goal.returns-then-is_stop
returns-then-is_stop c = read_stop _ c.args.c c.byte_at-b.ensures (sym c.is_stop.ensures ∙ c.if-is_stop.true)

pub overflow_add-next : goal.overflow_add-next
overflow_add-next c = let h = stop_in _ _ _ c.byte_at-b.ensures (sym c.is_stop.ensures ∙ c.if-is_stop.false) in omega arith

pub returns-then-b-ne92 : goal.returns-then-b-ne92
returns-then-b-ne92 c = read_plain _ c.args.c c.byte_at-b.ensures (sym c.is_stop.ensures ∙ c.if-is_stop.false) c.requires c.if-b-ne92.true

pub escape_at-x-requires : goal.escape_at-x-requires
escape_at-x-requires c = (stop_in _ _ _ c.byte_at-b.ensures (sym c.is_stop.ensures ∙ c.if-is_stop.false), sym c.byte_at-b.ensures ∙ c.if-b-ne92.false)

pub bounds-bytes-i : goal.bounds-bytes-i
bounds-bytes-i c = let h = here _ c.args.c c.byte_at-b.ensures (sym c.is_stop.ensures ∙ c.if-is_stop.false) c.requires _ c.escape_at-x.ensures _ refl in omega arith

pub overflow_add-i : goal.overflow_add-i
overflow_add-i c = let h = here _ c.args.c c.byte_at-b.ensures (sym c.is_stop.ensures ∙ c.if-is_stop.false) c.requires _ c.escape_at-x.ensures _ refl in omega arith

pub returns-then-i-x : goal.returns-then-i-x
returns-then-i-x c = read_more _ c.args.c c.byte_at-b.ensures (sym c.is_stop.ensures ∙ c.if-is_stop.false) c.requires _ c.escape_at-x.ensures c.if-i-x.true

pub returns : goal.returns
returns c = read_last _ c.args.c c.byte_at-b.ensures (sym c.is_stop.ensures ∙ c.if-is_stop.false) c.requires _ c.escape_at-x.ensures c.if-i-x.false
