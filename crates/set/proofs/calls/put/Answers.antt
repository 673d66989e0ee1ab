-- `set::calls::put` meets its contract.
-- Assumes nothing.
use mathlib.Core.Path.{refl, sym, ◌∙◌}
use Rattle.set.proofs.Places.{is_long}
use Rattle.set.proofs.CallLaws.{put_not, put_nowhere, put_many, put_asks, put_bad, put_read}
use Rattle.set.proofs.calls.put.Goals as goal

pub returns-then-not-well_formed : goal.returns-then-not-well_formed
returns-then-not-well_formed c = put_not _ _ _ (sym c.well_formed-2.ensures ∙ c.if-not-well_formed.true) c.refused.ensures

pub declarations-requires : goal.declarations-requires
declarations-requires c = is_long _ (sym c.well_formed-2.ensures ∙ c.if-not-well_formed.false)

pub returns-then-declarations-place : goal.returns-then-declarations-place
returns-then-declarations-place c = put_nowhere _ _ _ (sym c.well_formed-2.ensures ∙ c.if-not-well_formed.false) _ c.declarations.ensures c.if-declarations-place.true c.refused-then-declarations-place.ensures

pub returns-then-place-ge-DECLARATIONS : goal.returns-then-place-ge-DECLARATIONS
returns-then-place-ge-DECLARATIONS c = put_many _ _ _ (sym c.well_formed-2.ensures ∙ c.if-not-well_formed.false) _ c.declarations.ensures c.if-declarations-place.false c.if-place-ge-DECLARATIONS.true c.refused-then-place-ge-DECLARATIONS.ensures

pub read_text-requires : goal.read_text-requires
read_text-requires c = refl

pub put_rows-requires : goal.put_rows-requires
put_rows-requires c = put_asks _ _ _ (sym c.well_formed-2.ensures ∙ c.if-not-well_formed.false) _ c.declarations.ensures c.if-declarations-place.false c.if-place-ge-DECLARATIONS.false c.read_text.ensures _ c.in-Ok.is

pub returns-in-Err : goal.returns-in-Err
returns-in-Err c = put_bad _ _ _ (sym c.well_formed-2.ensures ∙ c.if-not-well_formed.false) _ c.declarations.ensures c.if-declarations-place.false c.if-place-ge-DECLARATIONS.false c.read_text.ensures c.in-Err.is c.placed.ensures

pub returns-in-Ok : goal.returns-in-Ok
returns-in-Ok c = put_read _ _ _ (sym c.well_formed-2.ensures ∙ c.if-not-well_formed.false) _ c.declarations.ensures c.if-declarations-place.false c.if-place-ge-DECLARATIONS.false c.read_text.ensures _ c.in-Ok.is c.put_rows.ensures
