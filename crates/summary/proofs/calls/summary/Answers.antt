-- `summary::calls::summary` meets its contract: 20, 40, 42, 41, what is read.
-- Assumes nothing.
use Rattle.walk.proofs.Laws.{exit}
use Rattle.summary.proofs.CallLaws.{as_read, summary_broken, summary_marker, summary_cut, summary_unknown, summary_read}
use Rattle.summary.proofs.calls.summary.Goals as goal

pub returns-in_err-checked : goal.returns-in_err-checked
returns-in_err-checked c = summary_broken _ _ _ c.in_err-checked.ensures (exit c.from_residual.ensures.1)

pub place_of-requires : goal.place_of-requires
place_of-requires c = c.in_ok-checked.ensures

pub returns-then-marker-ne2 : goal.returns-then-marker-ne2
returns-then-marker-ne2 c = summary_marker _ _ _ c.in_ok-checked.ensures _ c.marker_at-marker.ensures c.if-marker-ne2.true c.refusal.ensures

pub returns-then-bytes-lt10 : goal.returns-then-bytes-lt10
returns-then-bytes-lt10 c = summary_cut _ _ _ c.in_ok-checked.ensures _ c.marker_at-marker.ensures c.if-marker-ne2.false c.if-bytes-lt10.true c.refusal-then-bytes-lt10.ensures

pub returns-in_err-place : goal.returns-in_err-place
returns-in_err-place c = summary_unknown _ _ _ c.in_ok-checked.ensures _ c.marker_at-marker.ensures c.if-marker-ne2.false c.if-bytes-lt10.false c.in_err-place.ensures (exit c.from_residual-in_err-place.ensures.1)

pub read-requires : goal.read-requires
read-requires c = (c.in_ok-checked.ensures, c.in_ok-place.ensures.1, c.if-bytes-lt10.false)

pub returns : goal.returns
returns c = as_read c.args.list.now (summary_read _ _ c.args.list.now c.in_ok-checked.ensures _ c.marker_at-marker.ensures c.if-marker-ne2.false c.if-bytes-lt10.false c.in_ok-place.ensures) c.read.ensures
