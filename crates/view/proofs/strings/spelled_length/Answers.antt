-- `view::strings::spelled_length` meets its contract: as many bytes are read as are not left.
-- Assumes nothing.
use mathlib.Core.Path.{ap}
use native.Mathlib.Omega.{arith}
use lib.ListN.{length}
use Rattle.view.proofs.Undone.{read_end, read_byte, read_within, string_short}
use Rattle.view.proofs.strings.spelled_length.Goals as goal

pub loop-next-init : goal.loop-next-init
loop-next-init c = (c.opening-c.ensures.1, omega (arith, ap length c.opening-c.ensures.0))

pub next_byte-requires : goal.next_byte-requires
next_byte-requires c = c.loop-next.invariant.0

pub returns : goal.returns
returns c = let z = ap length (read_end c.next_byte.ensures c.in_default.is) in omega (arith, c.loop-next.invariant.1)

pub overflow_add-n : goal.overflow_add-n
overflow_add-n c = let z = ap length (read_byte c.next_byte.ensures c.in-Some.is) in let s = string_short c.args.text.now c.args.at in omega (arith, c.loop-next.invariant.1)

pub loop-next-smaller : goal.loop-next-smaller
loop-next-smaller c = let z = ap length (read_byte c.next_byte.ensures c.in-Some.is) in omega arith

pub loop-next-preserved : goal.loop-next-preserved
loop-next-preserved c = let z = ap length (read_byte c.next_byte.ensures c.in-Some.is) in (read_within c.next_byte.ensures c.in-Some.is, omega (arith, c.loop-next.invariant.1))
