-- `view::strings::read_same` meets its contract: what is left of the one against what is left of the other.
-- Assumes nothing.
use mathlib.Core.Path.{ap, ap₂, ◌∙◌}
use native.Mathlib.Omega.{arith}
use lib.Dec.{eqb}
use lib.ListN.{length}
use Rattle.ground.specs.Bytes.{same}
use Rattle.view.specs.Strings.{string_at}
use Rattle.view.proofs.Undone.{read_end, read_byte, read_within, lengths_differ, lengths_agree, both_end, other_ends, bytes_differ, bytes_turn}
use Rattle.view.proofs.strings.read_same.Goals as goal

pub returns-then-not-has_length : goal.returns-then-not-has_length
returns-then-not-has_length c = lengths_differ _ _ (c.has_length.ensures ∙ ap (eqb _) c.string_length.ensures) c.if-not-has_length.true

pub loop-a-init : goal.loop-a-init
loop-a-init c =
    let e = lengths_agree (string_at c.args.text.now c.args.one) (string_at c.args.text.now c.args.other) (c.has_length.ensures ∙ ap (eqb _) c.string_length.ensures) c.if-not-has_length.false in
    let z = ap length c.opening-c.ensures.0 in
    (c.opening-c.ensures.1, c.opening-d.ensures.1, omega (arith, ap length c.opening-d.ensures.0), ap₂ same c.opening-c.ensures.0 c.opening-d.ensures.0)

pub next_byte-requires : goal.next_byte-requires
next_byte-requires c = c.loop-a.invariant.0

pub returns : goal.returns
returns c = both_end _ _ c.loop-a.invariant.3 c.loop-a.invariant.2 (read_end c.next_byte.ensures c.in_default.is)

pub next_byte-requires-in-Some : goal.next_byte-requires-in-Some
next_byte-requires-in-Some c = c.loop-a.invariant.1

pub returns-in_default-next_byte : goal.returns-in_default-next_byte
returns-in_default-next_byte c = other_ends _ _ c.loop-a.invariant.3 (read_byte c.next_byte.ensures c.in-Some.is) (read_end c.next_byte-in-Some.ensures c.in_default-next_byte.is)

pub returns-then-a-b : goal.returns-then-a-b
returns-then-a-b c = bytes_differ _ _ c.loop-a.invariant.3 (read_byte c.next_byte.ensures c.in-Some.is) (read_byte c.next_byte-in-Some.ensures c.in-Some-next_byte.is) c.if-a-b.true

pub loop-a-smaller : goal.loop-a-smaller
loop-a-smaller c = let z = ap length (read_byte c.next_byte.ensures c.in-Some.is) in omega arith

pub loop-a-preserved : goal.loop-a-preserved
loop-a-preserved c =
    let e = read_byte c.next_byte.ensures c.in-Some.is in
    let f = read_byte c.next_byte-in-Some.ensures c.in-Some-next_byte.is in
    let y = ap length e in
    let z = ap length f in
    (read_within c.next_byte.ensures c.in-Some.is, read_within c.next_byte-in-Some.ensures c.in-Some-next_byte.is, omega (arith, c.loop-a.invariant.2), bytes_turn _ _ c.loop-a.invariant.3 e f c.if-a-b.false)
