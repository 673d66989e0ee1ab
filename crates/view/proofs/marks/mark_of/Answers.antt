-- `view::marks::mark_of` meets its contract: the mark of what is left, from the number so far on, is the whole mark.
-- Assumes nothing.
use mathlib.Core.Path.{◌≡◌, refl, sym, ap, ◌∙◌}
use Prim.Native.Nat.{ℕ, ◌+◌, ◌*◌, ◌/◌}
use lib.ListN.{length, drop}
use Rattle.view.specs.Marks.{marking, mark_from}
use Rattle.view.proofs.Marking.{mark_three}
use native.Mathlib.Omega.{arith}
use Rattle.view.proofs.marks.mark_of.Goals as goal

pub loop-i-init : goal.loop-i-init
loop-i-init c = refl

pub loop-i-preserved : goal.loop-i-preserved
loop-i-preserved c =
    let e : 3 * (c.loop-i.i + 1) ≡ 3 * c.loop-i.i + 3 = omega arith in
    ap (λ (i : ℕ). mark_from (marking c.more-h.result 0 0) (drop i c.args.s.now)) e ∙ mark_three c.args.s.now (3 * c.loop-i.i) _ _ c.loop-i.invariant (omega arith) c.three.ensures.0 c.more-h.ensures

pub returns : goal.returns
returns c =
    let e : c.loop-i.i ≡ length c.args.s.now / 3 = omega arith in
    c.last.ensures ∙ ap (λ (i : ℕ). mark_from (marking c.loop-i.h 0 0) (drop (3 * i) c.args.s.now)) (sym e) ∙ c.loop-i.invariant
