-- `resolve::clash::is_met` meets its contract: the answer for the chain that is left is the answer.
-- Assumes nothing.
use mathlib.Core.Path.{sym, ap, ◌∙◌}
use native.Mathlib.Omega.{arith}
use Rattle.chains.proofs.Laws.{walk_far, walk_hit, walk_on, walk_none}
use Rattle.chains.specs.Chains.{on_chain}
use Rattle.resolve.proofs.ChainLaws.{meets_is, meets_low}
use Rattle.resolve.proofs.clash.is_met.Goals as goal

pub loop-h-init : goal.loop-h-init
loop-h-init c = (omega arith, ap (on_chain _ _ _) c.at-h.ensures)

pub returns-then-left-h : goal.returns-then-left-h
returns-then-left-h c = walk_far _ _ _ _ _ c.loop-h.invariant.1 c.if-left-h.true

pub returns-then-is_clash : goal.returns-then-is_clash
returns-then-is_clash c = walk_hit _ _ _ _ _ c.loop-h.invariant.1 (omega arith) c.if-left-h.false (meets_is _ _ _ _ _ _ c.loop-h-test.true (sym (rw c.requires.6 at c.is_clash.ensures) ∙ c.if-is_clash.true))

pub loop-h-preserved : goal.loop-h-preserved
loop-h-preserved c = (omega arith, walk_on _ _ _ _ _ c.loop-h.invariant.1 (omega arith) c.if-left-h.false (meets_is _ _ _ _ _ _ c.loop-h-test.true (sym (rw c.requires.6 at c.is_clash.ensures) ∙ c.if-is_clash.false)) c.at-h-in-loop-h.ensures)

pub returns : goal.returns
returns c = walk_none _ _ _ _ _ c.loop-h.invariant.1 (meets_low _ _ _ _ _ _ c.loop-h-test.false)
