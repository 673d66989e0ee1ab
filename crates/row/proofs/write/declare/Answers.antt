-- `row::write::declare` meets its contract: the place's two bytes, then the number of declarations.
-- Assumes nothing.
use Rattle.ground.specs.Numbers.{low_first}
use Rattle.row.proofs.WriteLaws.{two_words}
use Rattle.row.proofs.write.declare.Goals as goal

pub returns : goal.returns
unfolding low_first
returns c = two_words _ _ _ c.args.place _ _ _ c.to_le_bytes.ensures c.to_le_bytes-2.ensures c.copy.ensures c.copy-2.ensures
