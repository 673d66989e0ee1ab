-- `view::strings::read_copy` meets its contract: what is left, stored, gives the whole store.
-- Assumes nothing.
use mathlib.Core.Path.{refl, ap, ◌∙◌}
use mathlib.Core.List.{List}
use Prim.Native.Nat.{ℕ}
use native.Mathlib.Omega.{arith}
use lib.ListN.{length, length-set}
use Rattle.ground.specs.Bytes.{store}
use Rattle.view.proofs.Undone.{read_end, read_byte, read_within, copy_end, copy_turn, string_short}
use Rattle.view.proofs.strings.read_copy.Goals as goal

pub loop-b-init : goal.loop-b-init
loop-b-init c = (c.opening-c.ensures.1, refl, omega (arith, ap length c.opening-c.ensures.0), ap (λ (l : List ℕ). store c.args.out.now 0 l) c.opening-c.ensures.0)

pub next_byte-requires : goal.next_byte-requires
next_byte-requires c = c.loop-b.invariant.0

pub returns : goal.returns
returns c = let e = read_end c.next_byte.ensures c.in_default.is in let z = ap length e in (omega (arith, c.loop-b.invariant.2), copy_end _ _ _ _ c.loop-b.invariant.3 e)

pub overflow_add-i : goal.overflow_add-i
overflow_add-i c = let z = ap length (read_byte c.next_byte.ensures c.in-Some.is) in let s = string_short c.args.text.now c.args.at in omega (arith, c.loop-b.invariant.2)

pub loop-b-smaller : goal.loop-b-smaller
loop-b-smaller c = let z = ap length (read_byte c.next_byte.ensures c.in-Some.is) in omega arith

pub loop-b-preserved : goal.loop-b-preserved
loop-b-preserved c = let z = ap length (read_byte c.next_byte.ensures c.in-Some.is) in ((read_within c.next_byte.ensures c.in-Some.is), ap length c.put.ensures ∙ simp length-set c.loop-b.invariant.1, omega (arith, c.loop-b.invariant.2), copy_turn _ _ _ _ _ _ c.loop-b.invariant.3 (read_byte c.next_byte.ensures c.in-Some.is) c.put.ensures)
