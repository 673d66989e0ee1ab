-- `view::strings::plain_end` meets its contract: a run of bytes that stand for themselves.
-- Assumes nothing.
use mathlib.Core.Path.{sym, ◌∙◌}
use Rattle.view.proofs.Plain.{run_none, run_letter, run_turn}
use borrow.Author.Rules.{rules}
use Rattle.view.proofs.strings.plain_end.Goals as goal

pub loop-p-init : goal.loop-p-init
loop-p-init c = run_none _ _ (search rules)

pub loop-p-preserved-then-b-gt92 : goal.loop-p-preserved-then-b-gt92
loop-p-preserved-then-b-gt92 c = run_letter _ _ _ c.loop-p.invariant c.loop-p-test.true c.if-b-gt92.true

pub loop-p-preserved : goal.loop-p-preserved
loop-p-preserved c = run_turn _ _ _ c.loop-p.invariant c.loop-p-test.true c.if-b-eq92.false (sym c.is_stop.ensures ∙ c.if-is_stop.false)

pub returns : goal.returns
returns c = c.loop-p.invariant
