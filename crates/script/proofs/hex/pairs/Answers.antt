-- `script::hex::pairs` meets its contract: the bytes of the pairs that are left, stored, give the whole store.
-- Assumes nothing.
use Rattle.script.proofs.HexLaws.{pair_turn, pair_end, count_pairs}
use Rattle.script.proofs.hex.pairs.Goals as goal

pub loop-n-preserved : goal.loop-n-preserved
loop-n-preserved c = pair_turn _ _ _ _ c.loop-n.invariant _ _ c.loop-n-test.true (cc (c.nibble.ensures.0, c.nibble-in-loop-n.ensures.0)) c.copy.ensures

pub returns : goal.returns
returns c = (count_pairs _, pair_end _ _ _ _ c.loop-n.invariant c.loop-n-test.false)
