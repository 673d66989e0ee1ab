-- `script::answers::put_rows` meets its contract.
-- Assumes nothing.
use mathlib.Core.Path.{sym, ◌∙◌}
use Rattle.script.proofs.LineLaws.{rows_there, rows_none, rows_all}
use Rattle.script.proofs.Laws.{put_none, put_is}
use Rattle.script.proofs.answers.put_rows.Goals as goal

pub returns-then-not-has_rows : goal.returns-then-not-has_rows
returns-then-not-has_rows c = put_is (rows_none _ _ _ (sym c.has_rows.ensures ∙ c.if-not-has_rows.true)) put_none

pub put_each-requires : goal.put_each-requires
put_each-requires c = rows_there c.args.mem.now c.args.n c.args.start (sym c.has_rows.ensures ∙ c.if-not-has_rows.false)

pub returns : goal.returns
returns c = put_is (rows_all _ _ _ (sym c.has_rows.ensures ∙ c.if-not-has_rows.false)) c.put_each.ensures
