-- `form::names::not_a_namespace` meets its contract.
-- Assumes nothing.
use mathlib.Core.Path.{ap}
use Prim.Native.Nat.{ℕ}
use Rattle.answer.specs.declared.refusal.Why.TheVariants.{NotAName}
use Rattle.form.specs.Checks.{fault}
use Rattle.form.proofs.names.not_a_namespace.Goals as goal

pub returns : goal.returns
returns c = ap (λ (p : ℕ). fault NotAName p) c.namespace_breach.ensures
