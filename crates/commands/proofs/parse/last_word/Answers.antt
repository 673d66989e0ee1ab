-- `commands::parse::last_word` meets its contract.
-- Assumes nothing.
use native.Mathlib.Omega.{arith}
use Rattle.commands.proofs.Laws.{some_words}
use Rattle.commands.proofs.parse.last_word.Goals as goal

pub overflow_sub-word_count : goal.overflow_sub-word_count
overflow_sub-word_count c = omega (arith, some_words c.args.line.now, c.word_count.ensures)
