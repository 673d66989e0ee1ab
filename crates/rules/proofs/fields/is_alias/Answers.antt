-- `rules::fields::is_alias` meets its contract: the answer for what is left is the whole answer.
-- Assumes nothing.
use mathlib.Core.Path.{◌∙◌, ap, refl}
use Rattle.rules.proofs.Earlier.{all_done, all_on, all_yes, some}
use Rattle.rules.proofs.Listed.{Alike, among_some}
use Rattle.form.proofs.Laws.{visit_less}
use Rattle.rules.proofs.fields.is_alias.Goals as goal

pub loop-spot-init : goal.loop-spot-init
loop-spot-init c = refl

pub returns : goal.returns
returns c = all_done (Alike c.args.text.now c.args.at) _ c.loop-spot.invariant c.in_default.is ∙ ap (some (Alike c.args.text.now c.args.at)) c.first_alias-spot.ensures ∙ (among_some c.args.text.now c.args.at _)

pub returns-then-strings_same : goal.returns-then-strings_same
returns-then-strings_same c = all_yes (Alike c.args.text.now c.args.at) _ c.loop-spot.invariant c.in-Some.is c.strings_same.ensures c.if-strings_same.true ∙ ap (some (Alike c.args.text.now c.args.at)) c.first_alias-spot.ensures ∙ (among_some c.args.text.now c.args.at _)

pub loop-spot-smaller : goal.loop-spot-smaller
loop-spot-smaller c = visit_less _ c.in-Some.is c.next_element-spot.ensures

pub loop-spot-preserved : goal.loop-spot-preserved
loop-spot-preserved c = all_on (Alike c.args.text.now c.args.at) _ c.loop-spot.invariant c.in-Some.is c.strings_same.ensures c.if-strings_same.false c.next_element-spot.ensures
