-- `ground::copy` meets its contract: what is left to store, stored, gives the whole store.
-- Assumes nothing.
use mathlib.Core.Path.{refl}
use native.Mathlib.Nat.{add-zero}
use borrow.Author.Rules.{rules}
use lib.ListN.{length-set}
use Rattle.ground.proofs.Loops.{copy_turn, copy_end}
use Rattle.ground.proofs.copy.Goals as goal

pub loop-i-init : goal.loop-i-init
loop-i-init c = (search rules, refl, rw add-zero)

pub loop-i-preserved : goal.loop-i-preserved
loop-i-preserved c = (search rules, simp length-set (search rules), copy_turn _ _ _ _ _ c.loop-i.invariant.2 (search rules))

pub returns : goal.returns
returns c = copy_end _ _ c.args.«from».now _ c.loop-i.i c.loop-i.invariant.2 (search rules)
