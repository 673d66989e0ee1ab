-- `binary::read` meets its contract: what is left says the whole, from group to group.
-- Assumes nothing.
use Rattle.std.proofs.Common.{◌≡◌, ℕ, ◌+◌, ◌<◌, ◌≤◌, ◌⊎◌, length, get_or, sym, ◌∙◌, arith}
use mathlib.Core.Logic.{⊎_elim}
use Rattle.binary.proofs.Laws.{cut_past}
use Rattle.binary.proofs.Turns.{start, ended, cut_off, fits, last_is, last_wrong, more_wrong, power_fits, sum_fits, turn, rest_past, rest_inside, rest_byte}
use Rattle.binary.proofs.read.Goals as goal
use Rattle.binary.proofs.read.Goals.{In-Some-get}

pub returns-in_default : goal.returns-in_default
returns-in_default c = sym (cut_past _ _ (let l = c.in_default.ensures.lookup.0 in omega arith) _ _ c.requires.0)

pub loop-i-init : goal.loop-i-init
loop-i-init c = start _ _ _

pub returns-in_default-get : goal.returns-in_default-get
returns-in_default-get c =
    let r = c.in-Some.ensures.lookup.0 in
    cut_off c.loop-i.invariant c.loop-i-test.true r.0 (rest_past _ _ c.loop-i.i r.0 r.2 c.in_default-get.ensures.lookup.3)

-- the group is the byte there
inside : (c : In-Some-get) → c.args.at + c.loop-i.i < length c.args.bytes.now
inside c = let r = c.in-Some.ensures.lookup.0 in rest_inside _ _ _ r.0 r.2 c.in-Some-get.ensures.lookup.3.0

byte : (c : In-Some-get) → c.in-Some-get.group.now ≡ get_or c.args.bytes.now (c.args.at + c.loop-i.i) 0
byte c = let r = c.in-Some.ensures.lookup.0 in let g = c.in-Some-get.ensures.lookup.3 in rest_byte _ _ _ r.0 r.2 g.0 (g.1 0)

pub returns-then-b-gt1 : goal.returns-then-b-gt1
returns-then-b-gt1 c =
    let k = (goal.at.returns-then-b-gt1 c).In-Some-get in
    last_wrong c.loop-i.invariant c.loop-i-test.true (c.from-b.ensures ∙ byte k) (inside k) c.if-b-lt128.true c.if-i-eq9.true c.if-b-gt1.true

-- of a tenth group only 0 and 1 are left
few : {i b : ℕ} → ((i ≡ 9) × (b ≤ 1)) ⊎ (i ≡ 9 → ⊥) → i ≡ 9 → b ≤ 1
few h e = ⊎_elim (λ p. p.1) (λ n. absurd (n e)) h

pub overflow_mul-result : goal.overflow_mul-result
overflow_mul-result c =
    let k = (goal.at.overflow_mul-result c).In-Some-get in
    omega (arith, fits c.loop-i.invariant c.loop-i-test.true (c.from-b.ensures ∙ byte k) (inside k) c.if-b-lt128.true c.requires.1 (few c.else-i-eq9.either))

pub overflow_add-result : goal.overflow_add-result
overflow_add-result c =
    let k = (goal.at.overflow_add-result c).In-Some-get in
    omega (arith, fits c.loop-i.invariant c.loop-i-test.true (c.from-b.ensures ∙ byte k) (inside k) c.if-b-lt128.true c.requires.1 (few c.else-i-eq9.either))

pub returns-then-b-lt128 : goal.returns-then-b-lt128
returns-then-b-lt128 c =
    let k = (goal.at.returns-then-b-lt128 c).In-Some-get in
    last_is c.loop-i.invariant c.loop-i-test.true (c.from-b.ensures ∙ byte k) (inside k) c.if-b-lt128.true c.requires.1 (few c.else-i-eq9.either)

pub returns-then-i-eq9-2 : goal.returns-then-i-eq9-2
returns-then-i-eq9-2 c =
    let k = (goal.at.returns-then-i-eq9-2 c).In-Some-get in
    more_wrong c.loop-i.invariant c.loop-i-test.true (c.from-b.ensures ∙ byte k) (inside k) c.if-b-lt128.false c.requires.1 c.if-i-eq9-2.true

pub overflow_mul-value : goal.overflow_mul-value
overflow_mul-value c =
    let k = (goal.at.overflow_mul-value c).In-Some-get in
    omega (arith, sum_fits c.loop-i.invariant c.loop-i-test.true (c.from-b.ensures ∙ byte k) (inside k) c.if-b-lt128.false c.requires.1 (omega (arith, c.type_inv.bytes (c.args.at + c.loop-i.i), c.from-b.ensures ∙ byte k)) c.if-i-eq9-2.false)

pub overflow_add-value : goal.overflow_add-value
overflow_add-value c =
    let k = (goal.at.overflow_add-value c).In-Some-get in
    omega (arith, sum_fits c.loop-i.invariant c.loop-i-test.true (c.from-b.ensures ∙ byte k) (inside k) c.if-b-lt128.false c.requires.1 (omega (arith, c.type_inv.bytes (c.args.at + c.loop-i.i), c.from-b.ensures ∙ byte k)) c.if-i-eq9-2.false)

pub overflow_mul-power : goal.overflow_mul-power
overflow_mul-power c =
    let k = (goal.at.overflow_mul-power c).In-Some-get in
    omega (arith, power_fits c.loop-i.invariant c.loop-i-test.true (c.from-b.ensures ∙ byte k) (inside k) c.if-b-lt128.false c.requires.1 (omega (arith, c.type_inv.bytes (c.args.at + c.loop-i.i), c.from-b.ensures ∙ byte k)) c.if-i-eq9-2.false)

pub loop-i-preserved : goal.loop-i-preserved
loop-i-preserved c =
    let k = (goal.at.loop-i-preserved c).In-Some-get in
    turn c.loop-i.invariant c.loop-i-test.true (c.from-b.ensures ∙ byte k) (inside k) c.if-b-lt128.false c.requires.1 (omega (arith, c.type_inv.bytes (c.args.at + c.loop-i.i), c.from-b.ensures ∙ byte k)) c.if-i-eq9-2.false

pub returns : goal.returns
returns c = ended c.loop-i.invariant c.loop-i-test.false
