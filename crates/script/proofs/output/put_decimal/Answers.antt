-- `script::output::put_decimal` meets its contract.
-- Assumes nothing.
use Rattle.script.proofs.NumberLaws.{decimal_digits}
use Rattle.script.proofs.Laws.{put_is}
use Rattle.script.proofs.output.put_decimal.Goals as goal

pub returns : goal.returns
returns c = put_is (decimal_digits _ _ _ c.decimal-k.ensures.len c.ranges.n.fits c.decimal-k.ensures.digits) c.put.ensures
