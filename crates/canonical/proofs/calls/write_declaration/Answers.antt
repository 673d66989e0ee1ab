-- `canonical::calls::write_declaration` meets its contract: the text of the first of its rows.
-- Assumes nothing.
use native.Mathlib.Omega.{arith}
use Rattle.canonical.proofs.CallLaws.{formed_long, place_few, place_rows, place_some, place_text, place_short}
use Rattle.canonical.proofs.WriteLaws.{wrote_eq}
use Rattle.canonical.proofs.calls.write_declaration.Goals as goal

pub rows_before-start-requires : goal.rows_before-start-requires
rows_before-start-requires c = (formed_long _ c.requires.0, omega (arith, place_few _ c.requires.0 _ c.requires.1))

pub rows_of-n-requires : goal.rows_of-n-requires
rows_of-n-requires c = (formed_long _ c.requires.0, place_few _ c.requires.0 _ c.requires.1)

pub overflow_add-start : goal.overflow_add-start
overflow_add-start c = omega (arith, place_rows _ c.requires.0 _ c.requires.1 _ _ c.rows_before-start.ensures c.rows_of-n.ensures.0)

pub write_piece-requires : goal.write_piece-requires
write_piece-requires c = (formed_long _ c.requires.0, place_some _ c.requires.0 _ c.requires.1 _ _ c.rows_before-start.ensures c.rows_of-n.ensures.0, place_rows _ c.requires.0 _ c.requires.1 _ _ c.rows_before-start.ensures c.rows_of-n.ensures.0, place_short _ c.requires.0 _ c.requires.1 _ _ c.rows_before-start.ensures c.rows_of-n.ensures.0)

pub returns : goal.returns
returns c = wrote_eq (place_text _ c.requires.0 _ c.requires.1 _ _ c.rows_before-start.ensures c.rows_of-n.ensures.0) c.write_piece.ensures
