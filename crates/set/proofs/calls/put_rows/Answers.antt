-- `set::calls::put_rows` meets its contract.
-- Assumes nothing.
use Rattle.set.proofs.Places.{is_long}
use Rattle.set.proofs.CallLaws.{last_rows}
use Rattle.set.proofs.calls.put_rows.Goals as goal

pub declarations-requires : goal.declarations-requires
declarations-requires c = is_long _ c.requires.0

pub returns-then-declarations-place : goal.returns-then-declarations-place
returns-then-declarations-place c = last_rows _ c.requires.0 _ c.declarations.ensures c.if-declarations-place.true c.put_last.ensures
