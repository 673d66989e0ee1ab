-- `script::answers::put_row` meets its contract.
-- Assumes nothing.
use mathlib.Core.Path.{ap}
use Rattle.script.specs.Lines.{spaced, row_numbers, row_line}
use Rattle.script.proofs.Laws.{put_then, put_is}
use Rattle.script.proofs.answers.put_row.Goals as goal

pub returns : goal.returns
unfolding row_line
returns c = put_then c.put-a.ensures (put_then (put_is c.kind_word.ensures c.put-b.ensures) (put_then (put_is (ap (row_numbers _) c.own_size.ensures) c.put_numbers-c.ensures) (put_then c.put_spaced_hex-d.ensures (put_then (put_is (ap spaced c.default_position.ensures) c.put_spaced-e.ensures) (put_then c.put_spaced_hex-f.ensures c.put.ensures)))))
