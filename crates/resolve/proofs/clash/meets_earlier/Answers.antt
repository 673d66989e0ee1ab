-- `resolve::clash::meets_earlier` meets its contract.
-- Assumes nothing.
use mathlib.Core.Path.{ap, ◌∙◌}
use Prim.Native.Nat.{ℕ}
use Rattle.chains.specs.Chains.{slot_of}
use Rattle.resolve.specs.Steps.{slot_under}
use Rattle.resolve.proofs.ChainLaws.{chain_meets, under_more, sized_more}
use borrow.Author.Rules.{rules}
use Rattle.resolve.proofs.clash.meets_earlier.Goals as goal

pub returns : goal.returns
unfolding slot_under
returns c =
    let e = c.slot-s.ensures.0 ∙ ap (λ (k : ℕ). slot_of k c.args.i) (rw c.requires.5 at c.key.ensures) in
    (chain_meets _ _ _ _ _ _ _ c.requires.6 c.requires.1 e c.is_met-met.ensures, sized_more c.requires.4 _ _ _ _ c.enter.ensures.0 c.enter.ensures.1, under_more _ _ _ _ _ _ _ c.requires.6 c.requires.4 (search rules) e c.slot-s.ensures.1 c.enter.ensures.0 c.enter.ensures.1)
