-- `resolve::names::is_known` meets its contract: the answer for the chain that is left is the answer.
-- Assumes nothing.
use mathlib.Core.Path.{sym, ap, ◌∙◌}
use Prim.Native.Nat.{ℕ}
use native.Mathlib.Omega.{arith}
use lib.ListN.{get_or}
use Rattle.chains.proofs.Laws.{walk_far, walk_hit, walk_on, walk_none}
use Rattle.chains.specs.Chains.{slot_of, on_chain}
use borrow.Author.Rules.{rules}
use Rattle.resolve.proofs.names.is_known.Goals as goal

pub loop-h-init : goal.loop-h-init
loop-h-init c = (omega arith, ap (on_chain _ _ _) (c.at-h.ensures ∙ ap (λ (k : ℕ). get_or c.args.first.now k 0) (c.slot.ensures.0 ∙ ap (λ (k : ℕ). slot_of k 0) c.mark.ensures)))

pub returns-then-left-h : goal.returns-then-left-h
returns-then-left-h c = walk_far _ _ _ _ _ c.loop-h.invariant.1 c.if-left-h.true

pub is_named_at-requires : goal.is_named_at-requires
is_named_at-requires c = (search rules, search rules, search rules, λ l. omega arith)

pub returns-then-is_named_at : goal.returns-then-is_named_at
returns-then-is_named_at c = walk_hit _ _ _ _ _ c.loop-h.invariant.1 c.loop-h-test.true c.if-left-h.false (sym c.is_named_at.ensures ∙ c.if-is_named_at.true)

pub loop-h-preserved : goal.loop-h-preserved
loop-h-preserved c = (omega arith, walk_on _ _ _ _ _ c.loop-h.invariant.1 c.loop-h-test.true c.if-left-h.false (sym c.is_named_at.ensures ∙ c.if-is_named_at.false) c.at-h-in-loop-h.ensures)

pub returns : goal.returns
returns c = walk_none _ _ _ _ _ c.loop-h.invariant.1 (λ a l. absurd (omega arith))
