-- `json_scan::wide_char` meets its contract. Assumes nothing.
use mathlib.Core.Path.{sym, ap, subst, ◌∙◌}
use Prim.Native.Nat.{ℕ, ◌+◌}
use native.Mathlib.Omega.{arith}
use borrow.Author.Tests.{ne_eqb}
use Rattle.json_scan.specs.Json.{str, plain, tail, wide}
use Rattle.json_scan.specs.Meets.{Wide}
use Rattle.json_scan.proofs.Readers.{reads_is}
use Rattle.json_scan.proofs.Strings.{wide_on, wide_bad, tail_0, tail_1, tail_2}
use Rattle.json_scan.proofs.utf8.wide_char.Goals as goal

pub returns-then-inside : goal.returns-then-inside
unfolding wide
returns-then-inside c = λ w. wide_on c.args.text.now c.args.at c.args.b c.requires.within c.requires.first w 128 191 0 (λ k. simp (sym c.inside.ensures ∙ c.if-inside.true)) _ (reads_is c.args.text.now (c.args.at + 1) (str w (tail 128 191 0)) (str w plain) _ _ c.within.ensures (tail_0 c.args.text.now (c.args.at + 1) w 128 191 (omega arith)))

pub returns-then-b-eq224 : goal.returns-then-b-eq224
unfolding wide
returns-then-b-eq224 c = λ w. wide_on c.args.text.now c.args.at c.args.b c.requires.within c.requires.first w 160 191 1 (λ k. ap (λ (x : ℕ). wide w x k) c.if-b-eq224.true) _ (reads_is c.args.text.now (c.args.at + 1) (str w (tail 160 191 1)) (str w plain) _ _ c.two_more.ensures (tail_1 c.args.text.now (c.args.at + 1) w 160 191 (omega arith)))

pub returns-then-b-eq237 : goal.returns-then-b-eq237
unfolding wide
returns-then-b-eq237 c = λ w. wide_on c.args.text.now c.args.at c.args.b c.requires.within c.requires.first w 128 159 1 (λ k. ap (λ (x : ℕ). wide w x k) c.if-b-eq237.true) _ (reads_is c.args.text.now (c.args.at + 1) (str w (tail 128 159 1)) (str w plain) _ _ c.two_more-then-b-eq237.ensures (tail_1 c.args.text.now (c.args.at + 1) w 128 159 (omega arith)))

pub returns-then-inside-2 : goal.returns-then-inside-2
unfolding wide
returns-then-inside-2 c = λ w. wide_on c.args.text.now c.args.at c.args.b c.requires.within c.requires.first w 128 191 1 (λ k. simp (sym c.inside.ensures ∙ c.if-inside.false, ne_eqb _ 224 c.if-b-eq224.false, ne_eqb _ 237 c.if-b-eq237.false, sym c.inside-else-b-eq237.ensures ∙ c.if-inside-2.true)) _ (reads_is c.args.text.now (c.args.at + 1) (str w (tail 128 191 1)) (str w plain) _ _ c.two_more-then-inside-2.ensures (tail_1 c.args.text.now (c.args.at + 1) w 128 191 (omega arith)))

pub returns-then-b-eq240 : goal.returns-then-b-eq240
unfolding wide
returns-then-b-eq240 c = λ w. wide_on c.args.text.now c.args.at c.args.b c.requires.within c.requires.first w 144 191 2 (λ k. ap (λ (x : ℕ). wide w x k) c.if-b-eq240.true) _ (reads_is c.args.text.now (c.args.at + 1) (str w (tail 144 191 2)) (str w plain) _ _ c.three_more.ensures (tail_2 c.args.text.now (c.args.at + 1) w 144 191 (omega arith)))

pub returns-then-b-eq244 : goal.returns-then-b-eq244
unfolding wide
returns-then-b-eq244 c = λ w. wide_on c.args.text.now c.args.at c.args.b c.requires.within c.requires.first w 128 143 2 (λ k. ap (λ (x : ℕ). wide w x k) c.if-b-eq244.true) _ (reads_is c.args.text.now (c.args.at + 1) (str w (tail 128 143 2)) (str w plain) _ _ c.three_more-then-b-eq244.ensures (tail_2 c.args.text.now (c.args.at + 1) w 128 143 (omega arith)))

pub returns-then-inside-3 : goal.returns-then-inside-3
unfolding wide
returns-then-inside-3 c = λ w. wide_on c.args.text.now c.args.at c.args.b c.requires.within c.requires.first w 128 191 2 (λ k. simp (sym c.inside.ensures ∙ c.if-inside.false, ne_eqb _ 224 c.if-b-eq224.false, ne_eqb _ 237 c.if-b-eq237.false, sym c.inside-else-b-eq237.ensures ∙ c.if-inside-2.false, ne_eqb _ 240 c.if-b-eq240.false, ne_eqb _ 244 c.if-b-eq244.false, sym c.inside-else-b-eq244.ensures ∙ c.if-inside-3.true)) _ (reads_is c.args.text.now (c.args.at + 1) (str w (tail 128 191 2)) (str w plain) _ _ c.three_more-then-inside-3.ensures (tail_2 c.args.text.now (c.args.at + 1) w 128 191 (omega arith)))

pub returns-else-inside-3 : goal.returns-else-inside-3
unfolding wide
returns-else-inside-3 c = λ w. subst (Wide w c.args.text.now c.args.at c.args.b) (sym c.bad.ensures) (wide_bad c.args.text.now c.args.at c.args.b c.requires.within c.requires.first w (λ k. simp (sym c.inside.ensures ∙ c.if-inside.false, ne_eqb _ 224 c.if-b-eq224.false, ne_eqb _ 237 c.if-b-eq237.false, sym c.inside-else-b-eq237.ensures ∙ c.if-inside-2.false, ne_eqb _ 240 c.if-b-eq240.false, ne_eqb _ 244 c.if-b-eq244.false, sym c.inside-else-b-eq244.ensures ∙ c.if-inside-3.false)))
