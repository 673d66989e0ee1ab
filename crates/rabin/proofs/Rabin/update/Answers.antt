-- `rabin::Rabin::update` meets its contract: the fingerprint of what is left, from here, is the whole one.
-- Assumes nothing.
use mathlib.Core.Path.{ap, ◌∙◌}
use native.Mathlib.Omega.{arith}
use lib.IntN.{ℤ}
use borrow.Author.Rules.{sfits_of}
use mir.Syntax.{w64}
use mir.Facts.{to_z-of_z}
use Rattle.rabin.specs.Rabin.{rabin_from}
use Rattle.rabin.proofs.Loop.{fold_next, fold_end}
use Rattle.rabin.proofs.Rabin.update.Goals as goal

pub loop-b-preserved : goal.loop-b-preserved
loop-b-preserved c = fold_next _ _ _ c.loop-b.b-index (omega arith) (to_z-of_z {w = w64} (sfits_of c.step-s.type_inv) ∙ c.step-s.ensures) ∙ c.loop-b.invariant

pub returns : goal.returns
returns c = fold_end _ c.args.bytes.now c.loop-b.b-index (omega arith) ∙ c.loop-b.invariant ∙ ap (λ (z : ℤ). rabin_from z c.args.bytes.now) (to_z-of_z {w = w64} {z = c.args.self.state} (sfits_of (omega arith)))
