-- `schema::definitions::put_definition` meets its contract.
-- Assumes nothing.
use Rattle.std.proofs.lemmas.Result.{err_from_is_err_and}
use Rattle.schema.proofs.Headed.{headed_old, headed_new}
use Rattle.schema.proofs.definitions.put_definition.Goals as goal

pub returns-in_err-new_name : goal.returns-in_err-new_name
returns-in_err-new_name c =
    let p = err_from_is_err_and c.from_residual.result c.from_residual.ensures.1 in
    rw (p.1, p.2) (headed_old _ _ _ _ _ _ c.new_name.ensures c.in_err-new_name.was)

pub returns : goal.returns
returns c = headed_new _ _ _ _ _ _ c.new_name.ensures _ c.in_ok-new_name.was c.push-next.ensures c.first_alias-first.ensures c.namespace_part.ensures c.put_aliases.ensures
