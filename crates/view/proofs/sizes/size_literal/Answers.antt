-- `view::sizes::size_literal` meets its contract.
-- Assumes nothing.
use Rattle.view.specs.Size.{size_from}
use Rattle.view.proofs.Digits.{size_none, size_some, size_out, size_digit, size_big, size_stop}
use native.Mathlib.Omega.{arith}
use lib.ListN.{get_or, drop}
use Prim.Native.Nat.{ℕ, ◌+◌, ◌-◌, ◌*◌}
use mathlib.Core.Path.{◌≡◌, sym, ap, ◌∙◌}
use Rattle.view.proofs.sizes.size_literal.Goals as goal

pub returns-then-not-is_digit : goal.returns-then-not-is_digit
returns-then-not-is_digit c = size_none _ _ _ c.byte_at.ensures (sym c.is_digit.ensures ∙ c.if-not-is_digit.true)

pub loop-p-init : goal.loop-p-init
loop-p-init c = (omega arith, omega arith, size_some _ _ _ c.byte_at.ensures (sym c.is_digit.ensures ∙ c.if-not-is_digit.false))

pub returns-then-not-is_digit-2 : goal.returns-then-not-is_digit-2
returns-then-not-is_digit-2 c = c.then_some.ensures ∙ size_stop _ _ _ c.loop-p-test.true (sym c.is_digit-in-loop-p.ensures ∙ c.if-not-is_digit-2.true) c.loop-p.invariant.1 c.is_delimiter.ensures ∙ c.loop-p.invariant.2

pub returns-in_err-checked_mul : goal.returns-in_err-checked_mul
returns-in_err-checked_mul c = let n = c.in_err-checked_mul.ensures in c.from_residual.ensures ∙ size_big _ _ _ c.loop-p-test.true (sym c.is_digit-in-loop-p.ensures ∙ c.if-not-is_digit-2.false) (omega arith) ∙ c.loop-p.invariant.2

pub returns-in_err-v : goal.returns-in_err-v
returns-in_err-v c = c.from_residual-in_err-v.ensures ∙ size_big _ _ _ c.loop-p-test.true (sym c.is_digit-in-loop-p.ensures ∙ c.if-not-is_digit-2.false) (omega arith) ∙ c.loop-p.invariant.2

pub loop-p-preserved : goal.loop-p-preserved
loop-p-preserved c =
    let e : c.in_ok-v.v ≡ c.loop-p.v * 10 + (get_or c.args.text.now c.loop-p.p 0 - 48) = omega arith in
    (omega arith, omega arith, ap (λ (v : ℕ). size_from v (drop (c.loop-p.p + 1) c.args.text.now)) e ∙ size_digit _ _ _ c.loop-p-test.true (sym c.is_digit-in-loop-p.ensures ∙ c.if-not-is_digit-2.false) ∙ c.loop-p.invariant.2)

pub returns : goal.returns
returns c = size_out c.args.text.now c.loop-p.p _ (omega arith) c.loop-p.invariant.1 ∙ c.loop-p.invariant.2
