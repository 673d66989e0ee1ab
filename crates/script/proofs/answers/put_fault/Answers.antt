-- `script::answers::put_fault` meets its contract.
-- Assumes nothing.
use mathlib.Core.Path.{ap, ◌∙◌}
use Rattle.script.specs.Lines.{spaced, fault_line}
use Rattle.script.proofs.Laws.{put_then, put_is}
use Rattle.script.proofs.answers.put_fault.Goals as goal

pub returns : goal.returns
unfolding fault_line
returns c = put_then c.put-a.ensures (put_then (put_is (ap spaced (c.from.ensures ∙ c.number.ensures)) c.put_spaced-b.ensures) (put_then c.put_spaced-c.ensures c.put.ensures))
