-- `rules::fields::enter_aliases` meets its contract: what is left, entered, gives the whole.
-- Assumes nothing.
use mathlib.Core.Path.{◌∙◌, ap, refl}
use mathlib.Core.List.{List, map}
use Prim.Native.Nat.{ℕ}
use lib.ListN.{length}
use Rattle.rules.proofs.Entering.{entered_done, entered_turn}
use Rattle.form.proofs.Laws.{visit_less}
use Rattle.seen.proofs.Laws.{length_entered, sized_as}
use Rattle.rules.specs.Fields.{entered_all}
use Rattle.view.specs.Strings.{string_at}
use Rattle.rules.proofs.fields.enter_aliases.Goals as goal

pub loop-spot-init : goal.loop-spot-init
loop-spot-init c = (refl, refl)

pub returns : goal.returns
returns c = entered_done c.args.text.now _ c.loop-spot.invariant.1 c.in_default.is ∙ ap (λ (l : List ℕ). entered_all c.args.table.now (map (string_at c.args.text.now) l)) c.first_alias-spot.ensures

pub enter-requires : goal.enter-requires
enter-requires c = sized_as c.requires.1 c.loop-spot.invariant.0

pub loop-spot-smaller : goal.loop-spot-smaller
loop-spot-smaller c = visit_less _ c.in-Some.is c.next_element-spot.ensures

pub loop-spot-preserved : goal.loop-spot-preserved
loop-spot-preserved c = (ap length c.enter.ensures.1 ∙ length_entered _ _ ∙ c.loop-spot.invariant.0, entered_turn c.args.text.now _ c.loop-spot.invariant.1 c.in-Some.is c.mark-own.ensures c.enter.ensures.1 c.next_element-spot.ensures)
