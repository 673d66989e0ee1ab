-- `script::numbers::decimal` meets its contract: the number of what is left, from the value so far, is the whole number.
-- Assumes nothing.
use mathlib.Core.Path.{◌≡◌, sym, ap, ◌∙◌}
use Prim.Native.Nat.{ℕ, ◌+◌, ◌-◌, ◌*◌}
use lib.ListN.{drop, get_or}
use Rattle.script.specs.Numbers.{number_from}
use native.Mathlib.Omega.{arith}
use Rattle.script.proofs.NumberLaws.{number_none, number_some, number_end, number_bad, number_turn, number_big}
use Rattle.script.proofs.numbers.decimal.Goals as goal

pub returns-then-is_empty : goal.returns-then-is_empty
returns-then-is_empty c = number_none _ (sym c.is_empty.ensures ∙ c.if-is_empty.true)

pub loop-b-init : goal.loop-b-init
loop-b-init c = (omega arith, number_some _ (sym c.is_empty.ensures ∙ c.if-is_empty.false))

pub returns-then-not-is_ascii_digit : goal.returns-then-not-is_ascii_digit
returns-then-not-is_ascii_digit c = number_bad _ _ _ _ c.loop-b.invariant.1 c.loop-b-test.true (sym c.is_ascii_digit.ensures.value ∙ c.if-not-is_ascii_digit.true)

pub returns-in_err-checked_mul : goal.returns-in_err-checked_mul
returns-in_err-checked_mul c = let n = c.in_err-checked_mul.ensures in c.from_residual.ensures ∙ number_big _ _ _ _ c.loop-b.invariant.1 c.loop-b-test.true (sym c.is_ascii_digit.ensures.value ∙ c.if-not-is_ascii_digit.false) (omega arith)

pub returns-in_err-v : goal.returns-in_err-v
returns-in_err-v c = c.from_residual-in_err-v.ensures ∙ number_big _ _ _ _ c.loop-b.invariant.1 c.loop-b-test.true (sym c.is_ascii_digit.ensures.value ∙ c.if-not-is_ascii_digit.false) (omega arith)

pub loop-b-preserved : goal.loop-b-preserved
loop-b-preserved c =
    let e : c.in_ok-v.v ≡ c.loop-b.v * 10 + (get_or c.args.word.now c.loop-b.b-index 0 - 48) = omega arith in
    (omega arith, ap (λ (v : ℕ). number_from v (drop (c.loop-b.b-index + 1) c.args.word.now)) e ∙ number_turn _ _ _ _ c.loop-b.invariant.1 c.loop-b-test.true (sym c.is_ascii_digit.ensures.value ∙ c.if-not-is_ascii_digit.false))

pub returns : goal.returns
returns c = number_end _ _ _ _ c.loop-b.invariant.1 c.loop-b-test.false c.loop-b.invariant.0
