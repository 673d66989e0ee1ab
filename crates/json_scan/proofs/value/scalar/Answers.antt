-- `json_scan::scalar` meets its contract. Assumes nothing.
use mathlib.Core.Path.{sym, ap, subst, ◌∙◌}
use Prim.Native.Nat.{ℕ}
use native.Mathlib.Omega.{arith}
use borrow.Author.Tests.{ne_eqb, le-leb, lt-leb}
use mathlib.Core.List.{[], ◌∷◌}
use Rattle.json_scan.specs.Json.{str, as_value, plain, num, minus, word, simple, word_of}
use Rattle.json_scan.specs.Meets.{Simple}
use Rattle.json_scan.proofs.Items.{lt_of_byte}
use Rattle.json_scan.proofs.Keys.{simple_on, simple_number, simple_bad}
use Rattle.json_scan.proofs.Numbers.{no_digit}
use Rattle.json_scan.proofs.value.scalar.Goals.{in_default-via-then-b-lt48, in_default-via-else-b-lt48+else-b-lt58}
use Rattle.json_scan.proofs.value.scalar.Goals as goal

pub overflow_add-at : goal.overflow_add-at
overflow_add-at c =
    let h = lt_of_byte c.args.text.now c.args.at 34 (sym c.requires ∙ c.in-34.is) (omega arith) in
    omega arith

pub overflow_add-at-in-45 : goal.overflow_add-at-in-45
overflow_add-at-in-45 c =
    let h = lt_of_byte c.args.text.now c.args.at 45 (sym c.requires ∙ c.in-45.is) (omega arith) in
    omega arith

pub overflow_add-at-in-116 : goal.overflow_add-at-in-116
overflow_add-at-in-116 c =
    let h = lt_of_byte c.args.text.now c.args.at 116 (sym c.requires ∙ c.in-116.is) (omega arith) in
    omega arith

pub overflow_add-at-in-102 : goal.overflow_add-at-in-102
overflow_add-at-in-102 c =
    let h = lt_of_byte c.args.text.now c.args.at 102 (sym c.requires ∙ c.in-102.is) (omega arith) in
    omega arith

pub overflow_add-at-in-110 : goal.overflow_add-at-in-110
overflow_add-at-in-110 c =
    let h = lt_of_byte c.args.text.now c.args.at 110 (sym c.requires ∙ c.in-110.is) (omega arith) in
    omega arith

pub returns-in-34 : goal.returns-in-34
unfolding simple word_of
returns-in-34 c = simple_on c.args.text.now c.args.at c.args.b c.requires (str as_value plain) _ (lt_of_byte c.args.text.now c.args.at 34 (sym c.requires ∙ c.in-34.is) (omega arith)) (λ k. ap (λ (x : ℕ). simple x k) c.in-34.is) (c.string.ensures as_value)

pub returns-in-45 : goal.returns-in-45
unfolding simple word_of
returns-in-45 c = simple_on c.args.text.now c.args.at c.args.b c.requires (num minus) _ (lt_of_byte c.args.text.now c.args.at 45 (sym c.requires ∙ c.in-45.is) (omega arith)) (λ k. ap (λ (x : ℕ). simple x k) c.in-45.is) c.number.ensures

pub returns-in-116 : goal.returns-in-116
unfolding simple word_of
returns-in-116 c = simple_on c.args.text.now c.args.at c.args.b c.requires (word 114 (117 ∷ 101 ∷ [])) _ (lt_of_byte c.args.text.now c.args.at 116 (sym c.requires ∙ c.in-116.is) (omega arith)) (λ k. ap (λ (x : ℕ). simple x k) c.in-116.is) c.literal.ensures

pub returns-in-102 : goal.returns-in-102
unfolding simple word_of
returns-in-102 c = simple_on c.args.text.now c.args.at c.args.b c.requires (word 97 (108 ∷ 115 ∷ 101 ∷ [])) _ (lt_of_byte c.args.text.now c.args.at 102 (sym c.requires ∙ c.in-102.is) (omega arith)) (λ k. ap (λ (x : ℕ). simple x k) c.in-102.is) c.literal-in-102.ensures

pub returns-in-110 : goal.returns-in-110
unfolding simple word_of
returns-in-110 c = simple_on c.args.text.now c.args.at c.args.b c.requires (word 117 (108 ∷ 108 ∷ [])) _ (lt_of_byte c.args.text.now c.args.at 110 (sym c.requires ∙ c.in-110.is) (omega arith)) (λ k. ap (λ (x : ℕ). simple x k) c.in-110.is) c.literal-in-110.ensures

pub returns-in-48-to-57 : goal.returns-in-48-to-57
unfolding simple word_of
returns-in-48-to-57 c = simple_number c.args.text.now c.args.at c.args.b c.requires _ (λ k. simp (ne_eqb c.args.b 34 (λ e. omega arith), ne_eqb c.args.b 45 (λ e. omega arith), ne_eqb c.args.b 116 (λ e. omega arith), ne_eqb c.args.b 102 (λ e. omega arith), ne_eqb c.args.b 110 (λ e. omega arith))) c.number-in-48-to-57.ensures

pub returns-in_default : goal.returns-in_default
unfolding simple word_of
returns-in_default c =
    subst (Simple c.args.text.now c.args.at c.args.b) (sym c.bad.ensures)
    (simple_bad c.args.text.now c.args.at c.args.b c.requires (λ k. simp (ne_eqb c.args.b 34 (λ e. omega arith), ne_eqb c.args.b 45 (λ e. omega arith), ne_eqb c.args.b 116 (λ e. omega arith), ne_eqb c.args.b 102 (λ e. omega arith), ne_eqb c.args.b 110 (λ e. omega arith)) (no_digit c.args.b k (elim c.in_default.branch [ in_default-via-then-b-lt48 l ↦ simp (lt-leb 48 c.args.b (omega arith)) | in_default-via-else-b-lt48+else-b-lt58 l ↦ simp (le-leb 48 c.args.b (omega arith), lt-leb c.args.b 57 (omega arith)) ]))))
