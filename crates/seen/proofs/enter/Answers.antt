-- `seen::enter` meets its contract.
-- Assumes nothing.
use native.Mathlib.Omega.{arith}
use Rattle.seen.proofs.Laws.{free_below}
use Rattle.seen.proofs.Turns.{enter_marked, enter_free}
use Rattle.seen.proofs.enter.Goals as goal

pub offset_bounds-table-at : goal.offset_bounds-table-at
offset_bounds-table-at c = let b = free_below _ _ c.requires.some c.free_place.ensures c.in-Some.is in omega arith

pub bounds-table-at : goal.bounds-table-at
bounds-table-at c = free_below _ _ c.requires.some c.free_place.ensures c.in-Some.is

pub returns-in-None : goal.returns-in-None
returns-in-None c = enter_marked _ _ c.free_place.ensures c.in-None.is

pub returns-in-Some : goal.returns-in-Some
returns-in-Some c = enter_free _ _ c.free_place.ensures c.in-Some.is
