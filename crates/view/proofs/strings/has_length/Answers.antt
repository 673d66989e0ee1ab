-- `view::strings::has_length` meets its contract: as many bytes are read as are not left.
-- Assumes nothing.
use mathlib.Core.Path.{ap}
use native.Mathlib.Omega.{arith}
use lib.ListN.{length}
use Rattle.view.proofs.Undone.{read_end, read_byte, read_within, count_end, count_past}
use Rattle.view.proofs.strings.has_length.Goals as goal

pub loop-next-init : goal.loop-next-init
loop-next-init c = (c.opening-c.ensures.1, omega (arith, ap length c.opening-c.ensures.0))

pub next_byte-requires : goal.next_byte-requires
next_byte-requires c = c.loop-next.invariant.0

pub returns : goal.returns
returns c = count_end _ _ _ _ c.loop-next.invariant.1 (ap length (read_end c.next_byte.ensures c.in_default.is))

pub returns-then-more-eq0 : goal.returns-then-more-eq0
returns-then-more-eq0 c =
    let z = ap length (read_byte c.next_byte.ensures c.in-Some.is) in
    count_past _ _ _ _ c.loop-next.invariant.1 (omega arith) c.if-more-eq0.true

pub loop-next-smaller : goal.loop-next-smaller
loop-next-smaller c = let z = ap length (read_byte c.next_byte.ensures c.in-Some.is) in omega arith

pub loop-next-preserved : goal.loop-next-preserved
loop-next-preserved c =
    let z = ap length (read_byte c.next_byte.ensures c.in-Some.is) in
    (read_within c.next_byte.ensures c.in-Some.is, omega (arith, c.loop-next.invariant.1))
