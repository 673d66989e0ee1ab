-- `view::strings::read_is` meets its contract: what is left of the string against what is left of the word.
-- Assumes nothing.
use mathlib.Core.Path.{ap}
use mathlib.Core.List.{List}
use Prim.Native.Nat.{ℕ}
use native.Mathlib.Omega.{arith}
use lib.ListN.{length}
use Rattle.ground.specs.Bytes.{same}
use Rattle.view.specs.Strings.{string_at}
use Rattle.view.proofs.Undone.{read_end, read_byte, read_within, lengths_differ, lengths_agree, word_end, word_short, word_differ, word_turn}
use Rattle.view.proofs.strings.read_is.Goals as goal

pub returns-then-not-has_length : goal.returns-then-not-has_length
returns-then-not-has_length c = lengths_differ _ _ c.has_length.ensures c.if-not-has_length.true

pub loop-x-init : goal.loop-x-init
loop-x-init c =
    let e = lengths_agree (string_at c.args.text.now c.args.at) c.args.word.now c.has_length.ensures c.if-not-has_length.false in
    (c.opening-c.ensures.1, omega (arith, ap length c.opening-c.ensures.0), ap (λ (l : List ℕ). same l c.args.word.now) c.opening-c.ensures.0)

pub next_byte-requires : goal.next_byte-requires
next_byte-requires c = c.loop-x.invariant.0

pub returns-in_default : goal.returns-in_default
returns-in_default c = word_short c.args.word.now _ c.loop-x.x-index c.loop-x.invariant.2 c.loop-x-test.true c.loop-x.invariant.1 (read_end c.next_byte.ensures c.in_default.is)

pub returns-then-x-b : goal.returns-then-x-b
returns-then-x-b c = word_differ c.args.word.now _ c.loop-x.x-index c.loop-x.invariant.2 (read_byte c.next_byte.ensures c.in-Some.is) c.loop-x-test.true c.if-x-b.true

pub loop-x-preserved : goal.loop-x-preserved
loop-x-preserved c =
    let e = read_byte c.next_byte.ensures c.in-Some.is in
    let z = ap length e in
    (read_within c.next_byte.ensures c.in-Some.is, omega (arith, c.loop-x.invariant.1), word_turn c.args.word.now _ c.loop-x.x-index c.loop-x.invariant.2 e c.loop-x-test.true c.if-x-b.false)

pub returns : goal.returns
returns c = word_end c.args.word.now _ c.loop-x.x-index c.loop-x.invariant.2 (omega arith) c.loop-x.invariant.1
