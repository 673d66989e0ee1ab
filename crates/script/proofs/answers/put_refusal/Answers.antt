-- `script::answers::put_refusal` meets its contract.
-- Assumes nothing.
use mathlib.Core.Path.{ap, ◌∙◌}
use Rattle.script.specs.Lines.{spaced, refusal_line}
use Rattle.script.proofs.Laws.{put_then, put_is}
use Rattle.script.proofs.answers.put_refusal.Goals as goal

pub returns : goal.returns
unfolding refusal_line
returns c = put_then c.put-a.ensures (put_then (put_is (ap spaced (c.from.ensures ∙ c.number.ensures)) c.put_spaced-b.ensures) (put_then c.put_spaced-c.ensures (put_then c.put_spaced-d.ensures c.put.ensures)))
