-- `replays::calls::rows` is safe.
-- Assumes nothing.
use mathlib.Core.Path.{sym, ◌∙◌}
use Rattle.replays.proofs.PlaceLaws.{formed_long, place_asks, before_asks}
use Rattle.replays.proofs.calls.rows.Goals as goal

pub declarations-requires : goal.declarations-requires
declarations-requires c = formed_long _ (sym c.well_formed-2.ensures ∙ c.if-not-well_formed.false)

pub rows_before-start-requires : goal.rows_before-start-requires
rows_before-start-requires c = before_asks _ (sym c.well_formed-2.ensures ∙ c.if-not-well_formed.false) _ _ c.declarations.ensures c.if-declarations-place.false

pub rows_of-n-requires : goal.rows_of-n-requires
rows_of-n-requires c = place_asks _ (sym c.well_formed-2.ensures ∙ c.if-not-well_formed.false) _ _ c.declarations.ensures c.if-declarations-place.false
