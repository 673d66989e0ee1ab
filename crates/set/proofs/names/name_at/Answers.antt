-- `set::names::name_at` meets its contract.
-- Assumes nothing.
use Rattle.set.proofs.Places.{is_long}
use Rattle.set.proofs.NameLaws.{none_place, rows_asks, none_row, before_asks, row_asks, is_name_lem}
use native.Mathlib.Omega.{arith}
use Rattle.set.proofs.names.name_at.Goals.{then-declarations-place-via-then-declarations-place, then-declarations-place-via-else-declarations-place+then-rows_of-row}
use Rattle.set.proofs.names.name_at.Goals as goal

pub declarations-requires : goal.declarations-requires
declarations-requires c = is_long _ c.requires

pub returns-then-declarations-place : goal.returns-then-declarations-place
returns-then-declarations-place c =
    elim c.then-declarations-place.branch [
      | then-declarations-place-via-then-declarations-place w ↦ none_place _ c.requires _ _ _ c.declarations.ensures _ w.if-declarations-place.true
      | then-declarations-place-via-else-declarations-place+then-rows_of-row w ↦ none_row _ c.requires _ _ _ c.declarations.ensures w.if-declarations-place.false _ w.rows_of.ensures.0 _ w.if-rows_of-row.true
    ]

pub rows_of-requires : goal.rows_of-requires
rows_of-requires c = rows_asks _ c.requires _ _ c.declarations.ensures c.if-declarations-place.false

pub rows_before-requires : goal.rows_before-requires
rows_before-requires c = before_asks _ c.requires _ _ c.declarations.ensures c.if-declarations-place.false

pub overflow_add-rows_before : goal.overflow_add-rows_before
overflow_add-rows_before c = omega (arith, (row_asks _ c.requires _ _ _ c.declarations.ensures c.if-declarations-place.false _ c.rows_of.ensures.0 c.if-rows_of-row.false _ c.rows_before.ensures).1)

pub name_of-requires : goal.name_of-requires
name_of-requires c = row_asks _ c.requires _ _ _ c.declarations.ensures c.if-declarations-place.false _ c.rows_of.ensures.0 c.if-rows_of-row.false _ c.rows_before.ensures

pub returns : goal.returns
returns c = is_name_lem _ c.requires _ _ _ c.declarations.ensures c.if-declarations-place.false _ c.rows_of.ensures.0 c.if-rows_of-row.false _ c.rows_before.ensures _ c.name_of.ensures
