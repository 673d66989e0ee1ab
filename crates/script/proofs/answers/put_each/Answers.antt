-- `script::answers::put_each` meets its contract: what is put after the rows so far gives the whole.
-- Assumes nothing.
use Rattle.script.proofs.LineLaws.{line_is, rows_turn, rows_end}
use Rattle.script.proofs.Laws.{put_is}
use Rattle.script.proofs.answers.put_each.Goals as goal

pub loop-i-preserved : goal.loop-i-preserved
loop-i-preserved c = rows_turn _ _ _ _ _ _ _ _ c.loop-i.invariant _ _ c.loop-i-test.true (put_is (line_is c.read_row-row.ensures c.string_of-text.ensures.0 c.default_of-default.ensures.0) c.put_row-end.ensures)

pub returns : goal.returns
returns c = rows_end _ _ _ _ _ _ _ _ c.loop-i.invariant c.loop-i-test.false
