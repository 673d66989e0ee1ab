-- Text put into a buffer: nothing, one piece after the other, and that it is the text written by another name.
-- Assumes nothing.
use mathlib.Core.Path.{◌≡◌, sym, ap, subst, ◌∙◌}
use mathlib.Core.List.{List, [], ◌++◌}
use Prim.Native.Nat.{ℕ, ◌+◌, ◌≤◌}
use native.Mathlib.Omega.{arith}
use lib.ListN.{length, length-append}
use Rattle.ground.specs.Bytes.{store}
use Rattle.ground.proofs.Laws.{length_store, store_none, store_then}
use Rattle.script.specs.Put.{Put}

pub put_none : {m : List ℕ} {at : ℕ} → Put m at [] m at
put_none {m} {at} = record { whole = λ h. (omega arith, sym (store_none m at)) }

pub put_then : {m : List ℕ} {at : ℕ} {s m₁ : List ℕ} {a : ℕ} {t m₂ : List ℕ} {b : ℕ} → Put m at s m₁ a → Put m₁ a t m₂ b → Put m at (s ++ t) m₂ b
put_then {m} {at} {s} {m₁} {a} {t} {m₂} {b} p q = record { whole = both }
  where
    both : at + length (s ++ t) ≤ length m → (b ≡ at + length (s ++ t)) × (m₂ ≡ store m at (s ++ t))
    both h =
        let e = length-append s t in
        let x = p.whole (omega arith) in
        let k = ap length x.1 ∙ length_store m at s in
        let y = q.whole (omega arith) in
        (omega arith, store_then m m₁ m₂ at a s t x.1 y.1 x.0)

pub put_is : {m : List ℕ} {at : ℕ} {s t m₁ : List ℕ} {a : ℕ} → s ≡ t → Put m at s m₁ a → Put m at t m₁ a
put_is {m} {at} {s} {t} {m₁} {a} e p = subst (λ (x : List ℕ). Put m at x m₁ a) e p
