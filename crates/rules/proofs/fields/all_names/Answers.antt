-- `rules::fields::all_names` meets its contract: what is left of the check, given what was passed, is the whole one.
-- Assumes nothing.
use Rattle.std.proofs.lemmas.Result.{err_from_is_err_and}
use mathlib.Core.Path.{refl, ap, ◌∙◌}
use lib.ListN.{length}
use Rattle.rules.proofs.Entering.{length_all, fields_bad, fields_done, fields_held, fields_on, fields_start}
use Rattle.form.proofs.Laws.{visit_less}
use Rattle.rules.proofs.fields.all_names.Goals as goal

pub loop-spot-init : goal.loop-spot-init
loop-spot-init c = (refl, fields_start _ _ c.requires.1 c.first_element-spot.ensures)

pub returns : goal.returns
returns c = fields_done _ c.loop-spot.invariant.1 c.in_default.is

pub field_name-requires : goal.field_name-requires
field_name-requires c = (c.requires.0, c.loop-spot.invariant.1.sized, fields_held _ c.loop-spot.invariant.1 c.in-Some.is)

pub returns-in_err-field_name : goal.returns-in_err-field_name
returns-in_err-field_name c =
    let p = err_from_is_err_and c.from_residual.result c.from_residual.ensures.1 in
    rw (p.1, p.2) (fields_bad _ c.loop-spot.invariant.1 c.in-Some.is c.field_name.ensures.0 c.in_err-field_name.was)

pub loop-spot-smaller : goal.loop-spot-smaller
loop-spot-smaller c = visit_less _ c.in-Some.is c.next_element-spot.ensures

pub loop-spot-preserved : goal.loop-spot-preserved
loop-spot-preserved c = (ap length c.field_name.ensures.1 ∙ length_all _ _ ∙ c.loop-spot.invariant.0, fields_on _ c.loop-spot.invariant.1 c.in-Some.is c.field_name.ensures.0 c.in_ok-field_name.was c.field_name.ensures.1 c.next_element-spot.ensures)
