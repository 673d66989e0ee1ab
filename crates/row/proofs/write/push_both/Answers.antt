-- `row::write::push_both` meets its contract: where there is no room the row is only counted.
-- Assumes nothing.
use mathlib.Core.Path.{sym, ◌∙◌}
use Rattle.row.proofs.WriteLaws.{both_counted, both_full, both_room, both_pushed}
use Rattle.row.proofs.write.push_both.Goals as goal
use Rattle.row.proofs.write.push_both.Goals.{then-has_room, else-has_room}

pub write-requires : goal.write-requires
write-requires c = both_room c.args.counts c.args.row c.args.text.now c.args.default.now _ c.saturating_add-n.ensures (sym c.has_room.ensures ∙ c.if-has_room.true)

pub returns : goal.returns
returns c = (
  both_counted c.args.counts c.args.row _ _ _ c.saturating_add-n.ensures _ c.count.ensures,
  elim c.if-has_room.branch [
    | then-has_room w ↦ w.mem-is ∙ both_pushed c.args.counts c.args.row _ _ _ c.saturating_add-n.ensures _ _ (sym c.has_room.ensures ∙ w.if-has_room.true) w.write.ensures
    | else-has_room w ↦ w.mem-is ∙ both_full c.args.counts c.args.row _ _ _ c.saturating_add-n.ensures _ (sym c.has_room.ensures ∙ w.if-has_room.false)
  ],
)
