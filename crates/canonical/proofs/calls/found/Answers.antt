-- `canonical::calls::found` meets its contract: 20, then 21.
-- Assumes nothing.
use mathlib.Core.Path.{sym, ◌∙◌}
use native.Mathlib.Omega.{arith}
use Rattle.canonical.proofs.CallLaws.{formed_long, text_broken, text_absent, place_counted}
use Rattle.canonical.proofs.calls.found.Goals as goal

pub returns-then-not-well_formed : goal.returns-then-not-well_formed
returns-then-not-well_formed c = text_broken _ _ (sym c.well_formed-2.ensures ∙ c.if-not-well_formed.true)

pub declarations-requires : goal.declarations-requires
declarations-requires c = formed_long _ (sym c.well_formed-2.ensures ∙ c.if-not-well_formed.false)

pub returns-then-declarations-place : goal.returns-then-declarations-place
returns-then-declarations-place c = text_absent _ _ (sym c.well_formed-2.ensures ∙ c.if-not-well_formed.false) _ c.declarations.ensures (omega (arith, c.if-declarations-place.true))

pub returns : goal.returns
returns c =
    let w = sym c.well_formed-2.ensures ∙ c.if-not-well_formed.false in
    (w, place_counted _ _ w _ c.declarations.ensures (omega (arith, c.if-declarations-place.false)))
