-- `breach::characters::character_at` meets its contract.
-- Assumes nothing.
use native.Mathlib.Omega.{arith}
use Rattle.breach.proofs.Letters.{piece_small, piece_few, piece_large}
use Rattle.breach.proofs.characters.character_at.Goals as goal

pub returns-then-n-eq1 : goal.returns-then-n-eq1
returns-then-n-eq1 c = piece_small _ _ c.byte_at-a.ensures c.size_of-n.ensures c.if-n-eq1.true c.part_at.ensures

pub overflow_add-result : goal.overflow_add-result
overflow_add-result c = let h = piece_few _ _ c.byte_at-a.ensures c.size_of-n.ensures in omega arith

pub returns : goal.returns
returns c = piece_large _ _ c.byte_at-a.ensures c.size_of-n.ensures c.if-n-eq1.false c.byte_at-b.ensures c.byte_at-c.ensures c.byte_at-d.ensures
