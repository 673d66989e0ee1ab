-- `script::answers::put_spaced` meets its contract.
-- Assumes nothing.
use Rattle.script.specs.Lines.{spaced}
use Rattle.script.proofs.Laws.{put_then}
use Rattle.script.proofs.answers.put_spaced.Goals as goal

pub returns : goal.returns
unfolding spaced
returns c = put_then c.put-next.ensures c.put_decimal.ensures
