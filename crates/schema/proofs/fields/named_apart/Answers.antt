-- `schema::fields::named_apart` meets its contract.
-- Assumes nothing.
use Rattle.std.proofs.lemmas.Result.{err_from_is_err_and}
use Rattle.schema.proofs.Leaves.{apart_bad, apart_fine}
use Rattle.schema.proofs.fields.named_apart.Goals as goal

pub returns-in_err-field_names : goal.returns-in_err-field_names
returns-in_err-field_names c =
    let p = err_from_is_err_and c.from_residual.result c.from_residual.ensures.1 in
    rw (p.1, p.2) (apart_bad _ _ c.field_names.ensures _ c.in_err-field_names.was)

pub returns : goal.returns
returns c = apart_fine _ _ c.field_names.ensures _ c.in_ok-field_names.was
