-- `script::output::put_signed` meets its contract.
-- Assumes nothing.
use Rattle.script.proofs.NumberLaws.{signed_below}
use Rattle.script.proofs.Laws.{put_then, put_is}
use Rattle.script.proofs.output.put_signed.Goals as goal

pub returns-then-n-lt0 : goal.returns-then-n-lt0
returns-then-n-lt0 c = put_is (signed_below _ _ c.ranges.n c.magnitude.ensures c.if-n-lt0.true) (put_then c.put-next.ensures c.put_decimal.ensures)
