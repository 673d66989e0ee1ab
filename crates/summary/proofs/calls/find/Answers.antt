-- `summary::calls::find` meets its contract: 20, 41, the place.
-- Assumes nothing.
use Rattle.std.proofs.Common.{ap, ◌∙◌}
use mir.Syntax.{w64}
use mir.Facts.{to_z-of_z}
use Rattle.rabin.specs.Rabin.{bytes_of}
use Rattle.walk.proofs.Laws.{exit}
use Rattle.summary.proofs.CallLaws.{find_broken, find_place}
use Rattle.summary.proofs.calls.find.Goals as goal

pub returns-in_err-checked : goal.returns-in_err-checked
returns-in_err-checked c = find_broken _ _ c.in_err-checked.ensures (exit c.from_residual.ensures.1)

pub returns : goal.returns
returns c = find_place _ _ c.in_ok-checked.ensures (c.bytes-print.ensures ∙ ap bytes_of (to_z-of_z {w = w64} {z = c.args.fingerprint} c.ranges.fingerprint)) _ c.place_of.ensures
