-- Numbers that are copied to a list's start are stored there.
-- Assumes nothing.
use Rattle.std.proofs.Common.{◌≡◌, ℕ, ◌≤◌, ◌++◌, List, length, take, drop, sym, ap, ◌∙◌, arith}
use Rattle.std.proofs.Math.Nat.{zero-add}
use lib.Seq.{length-take-le}
use Rattle.ground.specs.Bytes.{store}
use Rattle.ground.proofs.Laws.{store_fits}

pub copied : (out offsets : List ℕ) (n : ℕ) → n ≤ length out → n ≤ length offsets → {front : List ℕ} → front ≡ take n offsets → front ++ drop n out ≡ store out 0 (take n offsets)
copied out offsets n r k {front} f =
    let e : length (take n offsets) ≡ n = length-take-le n offsets k in
    rw f (sym (store_fits out 0 (take n offsets) (omega (arith, e)) ∙ ap (λ (i : ℕ). take n offsets ++ drop i out) (zero-add (length (take n offsets)) ∙ e)))
