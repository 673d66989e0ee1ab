-- `schema::definitions::put_fixed` meets its contract.
-- Assumes nothing.
use Rattle.std.proofs.lemmas.Result.{err_from_is_err_and}
use Rattle.schema.proofs.Headed.{size_none, size_not, fixed_bad, fixed_done}
use Rattle.schema.proofs.definitions.put_fixed.Goals as goal

pub returns-in_default : goal.returns-in_default
returns-in_default c = size_none _ _ _ _ _ _ c.in_default.is

pub returns-in_default-size_literal : goal.returns-in_default-size_literal
returns-in_default-size_literal c = size_not _ _ _ _ _ _ c.in-Some.is c.size_literal.ensures c.in_default-size_literal.is

pub returns-in_err-defined : goal.returns-in_err-defined
returns-in_err-defined c =
    let p = err_from_is_err_and c.from_residual.result c.from_residual.ensures.1 in
    rw (p.1, p.2) (fixed_bad _ _ _ _ _ _ c.in-Some.is c.size_literal.ensures c.in-Some-size_literal.is c.decimal_note-note.ensures c.define.ensures c.in_err-defined.was)

pub returns : goal.returns
returns c = fixed_done _ _ _ _ _ _ c.in-Some.is c.size_literal.ensures c.in-Some-size_literal.is c.decimal_note-note.ensures c.define.ensures c.in_ok-defined.was
