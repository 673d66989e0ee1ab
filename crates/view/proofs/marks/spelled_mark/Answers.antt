-- `view::marks::spelled_mark` meets its contract: the mark of what is left, from the number so far on, is the whole mark.
-- Assumes nothing.
use mathlib.Core.Path.{ap}
use mathlib.Core.List.{List}
use Prim.Native.Nat.{ℕ}
use lib.ListN.{length}
use Rattle.view.specs.Marks.{mark_of}
use Rattle.view.proofs.Marking.{held_none, mark_end, mark_turn}
use Rattle.view.proofs.Undone.{read_end, read_byte, read_within}
use native.Mathlib.Omega.{arith}
use Rattle.view.proofs.marks.spelled_mark.Goals as goal

pub loop-b-init : goal.loop-b-init
loop-b-init c = (c.opening-c.ensures.1, held_none _, ap (λ (l : List ℕ). mark_of l) c.opening-c.ensures.0)

pub next_byte-requires : goal.next_byte-requires
next_byte-requires c = c.loop-b.invariant.0

pub overflow_mul-m : goal.overflow_mul-m
overflow_mul-m c = omega arith

pub overflow_add-m : goal.overflow_add-m
overflow_add-m c = omega arith

pub more-requires : goal.more-requires
more-requires c = omega arith

pub returns : goal.returns
returns c = mark_end _ _ _ c.loop-b.invariant.2 (read_end c.next_byte.ensures c.in_default.is) c.more.ensures

pub with_byte-m-requires : goal.with_byte-m-requires
with_byte-m-requires c = c.loop-b.invariant.1

pub loop-b-smaller : goal.loop-b-smaller
loop-b-smaller c = let z = ap length (read_byte c.next_byte.ensures c.in-Some.is) in omega arith

pub loop-b-preserved : goal.loop-b-preserved
loop-b-preserved c = (read_within c.next_byte.ensures c.in-Some.is, c.with_byte-m.ensures.1, mark_turn _ _ _ c.loop-b.invariant.2 (read_byte c.next_byte.ensures c.in-Some.is) c.with_byte-m.ensures.0)
