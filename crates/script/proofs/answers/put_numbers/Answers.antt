-- `script::answers::put_numbers` meets its contract.
-- Assumes nothing.
use mathlib.Core.Path.{ap}
use Rattle.script.specs.Lines.{spaced, row_numbers}
use Rattle.script.proofs.Laws.{put_then, put_is}
use Rattle.script.proofs.answers.put_numbers.Goals as goal

pub returns : goal.returns
unfolding row_numbers
returns c = put_then (put_is (ap spaced c.from.ensures) c.put_spaced-a.ensures) (put_then (put_is (ap spaced c.from-2.ensures) c.put_spaced-b.ensures) (put_then c.put_spaced-c.ensures (put_then (put_is (ap spaced c.from-3.ensures) c.put_spaced-d.ensures) (put_then c.put_spaced-e.ensures c.put_spaced.ensures))))
