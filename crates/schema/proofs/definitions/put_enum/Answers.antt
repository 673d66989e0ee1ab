-- `schema::definitions::put_enum` meets its contract.
-- Assumes nothing.
use Rattle.std.proofs.lemmas.Result.{err_from_is_err_and}
use Rattle.schema.proofs.Headed.{enum_then}
use Rattle.schema.proofs.Did.{did_eq, did_stop, did_then, did_titled, did_untitled}
use mathlib.Core.Path.{refl}
use Rattle.schema.proofs.definitions.put_enum.Goals as goal

pub returns-in_err-defined : goal.returns-in_err-defined
returns-in_err-defined c =
    let p = err_from_is_err_and c.from_residual.result c.from_residual.ensures.1 in
    rw (p.1, p.2) (did_eq (enum_then _ _ _ _ _) (did_stop _ _ (did_untitled _ c.define.ensures c.in_err-defined.was) refl))

pub returns : goal.returns
returns c = did_eq (enum_then _ _ _ _ _) (did_then _ _ (did_titled _ c.define.ensures c.in_ok-defined.was) refl c.put_checked_symbols.ensures)
