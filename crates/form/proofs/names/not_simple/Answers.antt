-- `form::names::not_simple` meets its contract.
-- Assumes nothing.
use mathlib.Core.Path.{ap}
use Prim.Native.Nat.{ℕ}
use Rattle.answer.specs.declared.refusal.Why.TheVariants.{NotAName}
use Rattle.form.specs.Checks.{fault}
use Rattle.form.proofs.names.not_simple.Goals as goal

pub returns : goal.returns
returns c = ap (λ (p : ℕ). fault NotAName p) c.simple_breach.ensures
