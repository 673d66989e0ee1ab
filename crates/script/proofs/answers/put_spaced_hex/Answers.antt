-- `script::answers::put_spaced_hex` meets its contract.
-- Assumes nothing.
use Rattle.script.specs.Lines.{spaced_hex}
use Rattle.script.proofs.Laws.{put_then}
use Rattle.script.proofs.answers.put_spaced_hex.Goals as goal

pub returns : goal.returns
unfolding spaced_hex
returns c = put_then c.put-next.ensures c.put_hex.ensures
