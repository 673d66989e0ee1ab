-- `canonical::calls::canonical_length` meets its contract: a refusal, or the length of what is written where there is no room.
-- Assumes nothing.
use Rattle.std.proofs.lemmas.Result.{err_from_is_err_and}
use Rattle.canonical.proofs.CallLaws.{length_refused, length_found}
use Rattle.canonical.proofs.calls.canonical_length.Goals as goal

pub returns-in_err-found : goal.returns-in_err-found
returns-in_err-found c =
    let p = err_from_is_err_and c.from_residual.result c.from_residual.ensures.1 in
    rw (p.1, p.2) (length_refused _ _ c.in_err-found.ensures)

pub returns : goal.returns
returns c = length_found _ _ c.in_ok-found.ensures.0 c.in_ok-found.ensures.1 _ c.write_declaration.ensures.end
