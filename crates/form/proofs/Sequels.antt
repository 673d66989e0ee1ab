-- Checks one after the other.
-- Assumes nothing.
use Rattle.std.specs.Prelude.{Ok, Err}
use mathlib.Core.Path.{◌≡◌, refl}
use mathlib.Core.Bool.{Bool, true, false}
use Prim.Native.Nat.{ℕ}
use native.Mathlib.Omega.{arith}
use Rattle.answer.specs.declared.refusal.Fault.{Fault}
use Rattle.form.specs.Checks.{must, ◌then◌, Check}

pub must_holds : {b : Bool} (f : Fault) → b ≡ true → Ok tt ≡ must b f
must_holds f e = rw e

pub must_fails : {b : Bool} (f : Fault) → b ≡ false → Err f ≡ must b f
must_fails f e = rw e

-- what must hold holds where the check is fine
pub must_fine : (b : Bool) (f : Fault) → must b f ≡ Ok tt → b ≡ true
must_fine true f e = refl
must_fine false f e = let z : ◌≡◌ {A = ℕ} 0 1 = cc in absurd (omega arith)

-- two checks are fine where each is
pub then_fine : (a b : Check) → a then b ≡ Ok tt → (a ≡ Ok tt) × (b ≡ Ok tt)
then_fine (Ok tt) b e = (refl, e)
then_fine (Err f) b e = let z : ◌≡◌ {A = ℕ} 0 1 = cc in absurd (omega arith)

-- a fault is the first one's, or the first is fine
pub then_bad : {a : Check} {f : Fault} (b : Check) → a ≡ Err f → Err f ≡ a then b
then_bad b e = rw e

pub then_next : {a : Check} (b : Check) → a ≡ Ok tt → b ≡ a then b
then_next b e = rw e
