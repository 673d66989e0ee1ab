-- `seen::free_place` meets its contract: what is found from a place on is what is found.
-- Assumes nothing.
use native.Mathlib.Nat.{sub-zero}
use native.Mathlib.Omega.{arith}
use Rattle.seen.proofs.Turns.{found_zero, found_start, found_end, found_mark, found_free, found_on}
use Rattle.seen.proofs.free_place.Goals as goal

pub returns-then-mark-eq0 : goal.returns-then-mark-eq0
returns-then-mark-eq0 c = found_zero _ _ c.if-mark-eq0.true

pub loop-turn-init : goal.loop-turn-init
loop-turn-init c = (omega arith, rw sub-zero (found_start _ _ c.if-mark-eq0.false))

pub returns-then-held-mark : goal.returns-then-held-mark
returns-then-held-mark c = found_mark _ _ _ _ c.loop-turn.invariant.1 (omega arith) c.place-at.ensures.0 c.if-held-mark.true

pub returns-then-held-eq0 : goal.returns-then-held-eq0
returns-then-held-eq0 c = found_free _ _ _ _ c.loop-turn.invariant.1 (omega arith) c.place-at.ensures.0 c.if-held-mark.false c.if-held-eq0.true

pub loop-turn-preserved : goal.loop-turn-preserved
loop-turn-preserved c = (c.next-x.ensures.1, found_on _ _ _ _ c.loop-turn.invariant.1 (omega arith) c.place-at.ensures.0 c.if-held-mark.false c.if-held-eq0.false c.next-x.ensures.0 (omega arith))

pub returns : goal.returns
returns c = found_end _ _ _ _ c.loop-turn.invariant.1 (omega arith)
