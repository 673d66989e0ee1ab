-- `json_scan::scan` meets its contract: the length first, then the run. Assumes nothing.
use mathlib.Core.Path.{sym, ◌∙◌}
use Rattle.json_scan.proofs.Laws.{too_long, not_too_long}
use Rattle.json_scan.proofs.scan.Goals as goal

pub returns-then-text-gt-TEXT : goal.returns-then-text-gt-TEXT
returns-then-text-gt-TEXT c = sym (too_long _ c.if-text-gt-TEXT.true)

pub returns : goal.returns
returns c = c.read.ensures ∙ sym (not_too_long _ c.if-text-gt-TEXT.false)
