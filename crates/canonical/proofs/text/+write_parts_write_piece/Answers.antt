-- `canonical::text`'s `write_parts` and `write_piece` meet their contracts: of the texts of the parts, what is written so far and what is left; and a row's three pieces one behind the other.
-- Assumes nothing.
use mathlib.Core.Path.{sym, ◌∙◌}
use mathlib.Core.Bool.{true}
use native.Mathlib.Omega.{arith}
use borrow.Author.Rules.{rules}
use Rattle.canonical.proofs.PieceLaws.{opening_name, name_fits}
use Rattle.canonical.proofs.WalkLaws.{over_start, over_end, under_before, under_here, under_stop, under_past, turn_fits, turn_skip, turn_part, text_none, text_some, pieces_fit}
use Rattle.canonical.proofs.WriteLaws.{wrote_none, wrote_eq, wrote_then, wrote_lent, sofar_none, sofar_fits, sofar_length, sofar_end}
use Rattle.canonical.proofs.text.+write_parts_write_piece.Goals as goal
use Rattle.canonical.proofs.text.+write_parts_write_piece.Goals.{write_parts-then-is_part, write_parts-else-is_part}

pub write_parts-loop-i-init : goal.write_parts-loop-i-init
write_parts-loop-i-init t c = sofar_none _ _ _ (over_start _ _ _ _ _)

pub write_parts-is_part-requires : goal.write_parts-is_part-requires
write_parts-is_part-requires t c = (c.requires.0, omega (arith, c.requires.1, under_before _ 0 _ _ true _ (under_here _ _ _ _ c.loop-i-test.true _ c.depth_at.ensures.0 c.if-depth_at-depth.false)), c.requires.2)

pub write_parts-comma-to-requires : goal.write_parts-comma-to-requires
write_parts-comma-to-requires t c = omega (arith, sofar_fits _ c.loop-i.invariant c.requires.3)

pub write_parts-write_piece-requires : goal.write_parts-write_piece-requires
write_parts-write_piece-requires t c = (omega arith, (c.requires.0, under_before _ 0 _ _ true _ (under_here _ _ _ _ c.loop-i-test.true _ c.depth_at.ensures.0 c.if-depth_at-depth.false), c.requires.1, omega (arith, turn_fits _ _ _ _ _ _ c.loop-i.invariant (under_here _ _ _ _ c.loop-i-test.true _ c.depth_at.ensures.0 c.if-depth_at-depth.false) (sym c.is_part.ensures ∙ c.if-is_part.true) c.comma-to.ensures _ c.requires.3)))

pub write_parts-overflow_add-at : goal.write_parts-overflow_add-at
write_parts-overflow_add-at t c = omega (arith, c.write_piece.ensures.end, turn_fits _ _ _ _ _ _ c.loop-i.invariant (under_here _ _ _ _ c.loop-i-test.true _ c.depth_at.ensures.0 c.if-depth_at-depth.false) (sym c.is_part.ensures ∙ c.if-is_part.true) c.comma-to.ensures _ c.requires.3)

pub write_parts-loop-i-preserved : goal.write_parts-loop-i-preserved
write_parts-loop-i-preserved t c =
    elim c.if-is_part.branch [
      | write_parts-then-is_part w ↦ turn_part _ _ _ _ _ _ c.loop-i.invariant (under_here _ _ _ _ c.loop-i-test.true _ c.depth_at.ensures.0 c.if-depth_at-depth.false) (sym c.is_part.ensures ∙ w.if-is_part.true) w.comma-to.ensures _ _ _ w.min-from.ensures w.write_piece.ensures _ _ _ w.part-is w.at-is w.first-is
      | write_parts-else-is_part w ↦ turn_skip _ _ _ _ _ _ c.loop-i.invariant (under_here _ _ _ _ c.loop-i-test.true _ c.depth_at.ensures.0 c.if-depth_at-depth.false) (sym c.is_part.ensures ∙ w.if-is_part.false) _ _ _ w.part-is w.at-is w.first-is
    ]

pub write_parts-shape_of-part : goal.write_parts-shape_of-part
write_parts-shape_of-part t c = sofar_length c.loop-i.invariant

pub write_parts-returns-then-depth_at-depth : goal.write_parts-returns-then-depth_at-depth
write_parts-returns-then-depth_at-depth t c = sofar_end c.loop-i.invariant (over_end _ _ _ _ _ _ (under_stop _ _ _ _ c.loop-i-test.true _ c.depth_at.ensures.0 c.if-depth_at-depth.true))

pub write_parts-returns : goal.write_parts-returns
write_parts-returns t c = sofar_end c.loop-i.invariant (over_end _ _ _ _ _ _ (under_past _ _ _ _ c.loop-i-test.false))

pub write_piece-returns-then-left-eq0 : goal.write_piece-returns-then-left-eq0
write_piece-returns-then-left-eq0 t c = wrote_eq (text_none _ _ _ _ c.if-left-eq0.true) (wrote_none _ _)

pub write_piece-opening-at-requires : goal.write_piece-opening-at-requires
write_piece-opening-at-requires t c = name_fits _ _ _ c.string_of.ensures.0 c.requires.0

pub write_piece-write_parts-requires : goal.write_piece-write_parts-requires
write_piece-write_parts-requires t c = (omega arith, (c.requires.0, c.requires.2, search rules, rw c.from-depth.ensures (omega (arith, pieces_fit _ _ _ _ c.if-left-eq0.false c.requires.1 _ c.read_row-e.ensures _ c.string_of.ensures.0 _ c.requires.3))))

pub write_piece-overflow_add-to : goal.write_piece-overflow_add-to
write_piece-overflow_add-to t c = omega (arith, c.opening-at.ensures.end, (rw c.from-depth.ensures at c.write_parts.ensures).end, pieces_fit _ _ _ _ c.if-left-eq0.false c.requires.1 _ c.read_row-e.ensures _ c.string_of.ensures.0 _ c.requires.3)

pub write_piece-overflow_add-result : goal.write_piece-overflow_add-result
write_piece-overflow_add-result t c = omega (arith, c.opening-at.ensures.end, (rw c.from-depth.ensures at c.write_parts.ensures).end, c.closing.ensures.end, pieces_fit _ _ _ _ c.if-left-eq0.false c.requires.1 _ c.read_row-e.ensures _ c.string_of.ensures.0 _ c.requires.3)

pub write_piece-returns : goal.write_piece-returns
write_piece-returns t c =
    wrote_eq (text_some _ _ _ _ c.if-left-eq0.false c.requires.1 _ c.read_row-e.ensures)
    (wrote_then (wrote_eq (opening_name _ _ _ _ c.string_of.ensures.0) c.opening-at.ensures)
    (wrote_then (wrote_lent _ _ _ _ _ _ c.min-from.ensures (rw c.from-depth.ensures at c.write_parts.ensures)) (wrote_lent _ _ _ _ _ _ c.min-last.ensures c.closing.ensures)))
