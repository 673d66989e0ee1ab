-- `view::literals::literal` meets its contract: the table's end tells the string, and the string its end.
-- Assumes nothing.
use mathlib.Core.Path.{◌≡◌, sym, ap, ◌∙◌, subst}
use Prim.Native.Nat.{ℕ, ◌+◌, ◌-◌, ◌<◌}
use native.Mathlib.Omega.{arith}
use lib.ListN.{length, take, drop}
use Rattle.view.specs.Known.{Literal}
use Rattle.view.proofs.Known.{known_literal, literal_length, literal_lent}
use Rattle.view.proofs.literals.literal.Goals as goal

pub overflow_add-result : goal.overflow_add-result
overflow_add-result c =
    let z : 0 < c.known-e.result = omega arith in
    let l = known_literal c.requires c.args.at c.known-e.ensures c.byte_at.ensures c.if-byte_at-ne34.false z in
    let a = l.opens in
    let b = l.closes in
    omega arith

pub returns : goal.returns
returns c =
    let z : 0 < c.known-e.result = omega arith in
    let l = known_literal c.requires c.args.at c.known-e.ensures c.byte_at.ensures c.if-byte_at-ne34.false z in
    let s = literal_lent l in
    let n : length (take (c.known-e.result - 1 - (c.args.at + 1)) (drop (c.args.at + 1) c.args.text.now)) ≡ c.known-e.result - 1 - (c.args.at + 1) = ap length s ∙ sym (literal_length l) in
    let a = l.opens in
    let e : c.known-e.result ≡ c.args.at + 2 + length (take (c.known-e.result - 1 - (c.args.at + 1)) (drop (c.args.at + 1) c.args.text.now)) = omega arith in
    record { string = s; ended = subst (λ (k : ℕ). Literal c.args.text.now c.args.at k) e l }
