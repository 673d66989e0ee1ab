-- `canonical::places::place_with` meets its contract: the places before the one at hand, and the search from it on.
-- Assumes nothing.
use mathlib.Core.Path.{◌≡◌, sym, ◌∙◌}
use Prim.Native.Nat.{ℕ}
use native.Mathlib.Omega.{arith}
use lib.ListN.{length-replicate}
use Rattle.canonical.specs.Walk.{text_limit}
use Rattle.canonical.proofs.CallLaws.{formed_long, formed_count, place_counted}
use Rattle.canonical.proofs.PlaceLaws.{search_start, search_end, search_hit, search_next}
use Rattle.canonical.proofs.places.place_with.Goals as goal

pub declarations-n-requires : goal.declarations-n-requires
declarations-n-requires c = formed_long _ c.requires

pub loop-place-init : goal.loop-place-init
loop-place-init c = (length-replicate {A = ℕ} text_limit 0, search_start _ _)

pub has_print-requires : goal.has_print-requires
has_print-requires c = (c.requires, place_counted _ _ c.requires _ c.declarations-n.ensures (omega (arith, c.loop-place-test.true)), c.loop-place.invariant.0)

pub returns-then-has_print : goal.returns-then-has_print
returns-then-has_print c = search_hit _ _ _ c.loop-place.invariant.1 (place_counted _ _ c.requires _ c.declarations-n.ensures c.loop-place-test.true) (sym c.has_print.ensures.0 ∙ c.if-has_print.true)

pub loop-place-preserved : goal.loop-place-preserved
loop-place-preserved c = (c.has_print.ensures.1 ∙ c.loop-place.invariant.0, search_next _ _ _ c.loop-place.invariant.1 (place_counted _ _ c.requires _ c.declarations-n.ensures c.loop-place-test.true) (sym c.has_print.ensures.0 ∙ c.if-has_print.false))

pub returns : goal.returns
returns c =
    let e : c.declarations-n.result ≡ c.loop-place.place = omega arith in
    e ∙ search_end _ _ _ c.loop-place.invariant.1 (omega (arith, formed_count _ c.requires, c.declarations-n.ensures, c.loop-place-test.false))
