-- `script::output::put_hex` meets its contract: what is put after the pairs so far gives the whole.
-- Assumes nothing.
use mathlib.Core.Path.{sym, ◌∙◌}
use Rattle.script.proofs.HexLaws.{hex_none, hex_some, pairs_turn, pairs_end}
use Rattle.script.proofs.Laws.{put_is}
use Rattle.script.proofs.output.put_hex.Goals as goal

pub returns-then-is_empty : goal.returns-then-is_empty
returns-then-is_empty c = put_is (hex_none _ (sym c.is_empty.ensures ∙ c.if-is_empty.true)) c.put.ensures

pub loop-b-init : goal.loop-b-init
loop-b-init c = λ m r d. put_is (hex_some _ (sym c.is_empty.ensures ∙ c.if-is_empty.false)) d

pub loop-b-preserved : goal.loop-b-preserved
loop-b-preserved c = pairs_turn _ _ _ _ _ _ _ c.loop-b.invariant _ _ _ _ c.loop-b-test.true c.glyph.ensures c.glyph-in-loop-b.ensures c.put-end.ensures

pub returns : goal.returns
returns c = pairs_end _ _ _ _ _ _ _ c.loop-b.invariant c.loop-b-test.false
