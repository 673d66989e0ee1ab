-- `schema::words::put_primitive` meets its contract.
-- Assumes nothing.
use Rattle.std.proofs.lemmas.Result.{err_from_is_err_and}
use Rattle.schema.proofs.Leaves.{primitive_old, primitive_new, put_row}
use Rattle.schema.proofs.words.put_primitive.Goals as goal

pub returns-in_err-new_kind : goal.returns-in_err-new_kind
returns-in_err-new_kind c =
    let p = err_from_is_err_and c.from_residual.result c.from_residual.ensures.1 in
    rw (p.1, p.2) (primitive_old _ _ _ _ _ _ _ c.new_kind.ensures c.in_err-new_kind.was)

pub returns : goal.returns
returns c = primitive_new _ _ _ _ _ _ _ c.new_kind.ensures c.in_ok-new_kind.was c.note_of-note.ensures c.push.ensures.0 (put_row _ _ _ _ _ _ _ _ c.entry-row.ensures c.push.ensures.1)
