-- `view::table::note_bracket` meets its contract.
-- Assumes nothing.
use mathlib.Core.Path.{sym, ◌∙◌}
use native.Mathlib.Omega.{arith}
use Rattle.view.proofs.Filling.{stack_open, stack_other, stack_close, close_noted}
use Rattle.view.proofs.table.note_bracket.Goals as goal

pub returns-then-is_bracket : goal.returns-then-is_bracket
returns-then-is_bracket c = (stack_open c.requires.3 c.requires.1 c.requires.2 (sym c.is_bracket.ensures ∙ c.if-is_bracket.true) c.keep.ensures, c.requires.4)

pub returns-then-not-is_closing : goal.returns-then-not-is_closing
returns-then-not-is_closing c = (stack_other c.requires.3 c.requires.1 c.requires.2 (sym c.is_bracket.ensures ∙ c.if-is_bracket.false) (sym c.is_closing.ensures ∙ c.if-not-is_closing.true), c.requires.4)

pub returns-then-last-lt-NESTING : goal.returns-then-last-lt-NESTING
returns-then-last-lt-NESTING c = let f = sym c.is_closing.ensures ∙ c.if-not-is_closing.false in (stack_close c.requires.3 c.requires.1 c.requires.2 f, close_noted c.requires.3 c.requires.1 c.requires.2 f c.requires.4 (omega arith) c.if-last-lt-NESTING.true c.from.ensures c.note.ensures)

pub returns-else-last-lt-NESTING : goal.returns-else-last-lt-NESTING
returns-else-last-lt-NESTING c = (stack_close c.requires.3 c.requires.1 c.requires.2 (sym c.is_closing.ensures ∙ c.if-not-is_closing.false), c.requires.4)
