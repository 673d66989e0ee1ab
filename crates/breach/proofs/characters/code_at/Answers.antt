-- `breach::characters::code_at` meets its contract.
-- Assumes nothing.
use Rattle.breach.proofs.Letters.{code_piece, code_past}
use Rattle.breach.proofs.characters.code_at.Goals as goal

pub returns-then-at-text : goal.returns-then-at-text
returns-then-at-text c = code_piece _ _ c.character_at-x.ensures c.code_of.ensures

pub returns : goal.returns
returns c = code_past _ _ c.if-at-text.false
