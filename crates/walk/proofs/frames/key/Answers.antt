-- `walk::frames::key` meets its contract.
-- Assumes nothing.
use Rattle.std.proofs.Common.{sym, ◌∙◌}
use Rattle.walk.proofs.FrameLaws.{key_map, key_none}
use Rattle.walk.proofs.frames.key.Goals as goal

pub returns-then-is_map : goal.returns-then-is_map
returns-then-is_map c = key_map _ _ _ (sym c.is_map.ensures ∙ c.if-is_map.true) c.counted.ensures

pub returns-else-is_map : goal.returns-else-is_map
returns-else-is_map c = key_none _ _ _ c.requires.2 (sym c.is_map.ensures ∙ c.if-is_map.false)
