-- `commands::parse::of_words` meets its contract.
-- Assumes nothing.
use mathlib.Core.Path.{◌∙◌}
use Rattle.commands.proofs.Laws.{words_one, words_two, words_three, words_four}
use Rattle.commands.proofs.parse.of_words.Goals as goal

pub returns-in-1 : goal.returns-in-1
returns-in-1 c = c.of_none.ensures ∙ words_one _ _ _ c.word_count.ensures _ c.word-verb.ensures c.in-1.is

pub returns-in-2 : goal.returns-in-2
returns-in-2 c = c.of_one.ensures ∙ words_two _ _ _ c.word_count.ensures _ c.word-verb.ensures _ _ c.word.ensures c.decimal-first.ensures c.in-2.is

pub returns-in-3 : goal.returns-in-3
returns-in-3 c = c.of_two.ensures ∙ words_three _ _ _ c.word_count.ensures _ c.word-verb.ensures _ _ c.word.ensures c.decimal-first.ensures _ _ c.word-2.ensures c.decimal-second.ensures c.in-3.is

pub returns-in-4 : goal.returns-in-4
returns-in-4 c = c.of_three.ensures ∙ words_four _ _ _ c.word_count.ensures _ c.word-verb.ensures _ _ c.word.ensures c.decimal-first.ensures _ _ c.word-2.ensures c.decimal-second.ensures _ _ c.word-3.ensures c.decimal-third.ensures c.in-4.is
