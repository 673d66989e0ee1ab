-- `summary::calls::datum` meets its contract: 20, 21, what is read.
-- Assumes nothing.
use Rattle.std.proofs.Common.{arith}
use Rattle.walk.proofs.Laws.{exit}
use Rattle.summary.proofs.FormedLaws.{formed_long}
use Rattle.summary.proofs.CallLaws.{as_read, datum_broken, datum_absent, datum_place, datum_read}
use Rattle.summary.proofs.calls.datum.Goals as goal

pub returns-in_err-checked : goal.returns-in_err-checked
returns-in_err-checked c = datum_broken _ _ _ _ c.in_err-checked.ensures (exit c.from_residual.ensures.1)

pub declarations-requires : goal.declarations-requires
declarations-requires c = formed_long _ c.in_ok-checked.ensures

pub returns-then-declarations-place : goal.returns-then-declarations-place
returns-then-declarations-place c = datum_absent _ _ _ _ c.in_ok-checked.ensures _ c.declarations.ensures c.if-declarations-place.true c.refusal.ensures

pub read-requires : goal.read-requires
read-requires c = (c.in_ok-checked.ensures, datum_place _ _ c.args.bytes.now c.args.list.now c.in_ok-checked.ensures _ c.declarations.ensures c.if-declarations-place.false, omega arith)

pub returns : goal.returns
returns c = as_read c.args.list.now (datum_read _ _ _ c.args.list.now c.in_ok-checked.ensures _ c.declarations.ensures c.if-declarations-place.false) c.read.ensures
