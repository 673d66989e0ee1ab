-- `canonical::calls::canonical` meets its contract: a refusal of the length, no room, or the text written.
-- Assumes nothing.
use mathlib.Core.Path.{sym, ap, ◌∙◌}
use Rattle.std.proofs.lemmas.Result.{err_from_is_err_and}
use Rattle.canonical.specs.Calls.{numbers_of_written}
use Rattle.canonical.proofs.CallLaws.{length_told, canonical_refused, canonical_full, canonical_written}
use Rattle.canonical.proofs.calls.canonical.Goals as goal

pub returns-in_err-n : goal.returns-in_err-n
returns-in_err-n c =
    let p = err_from_is_err_and c.from_residual.result c.from_residual.ensures.1 in
    rw (p.1, p.2) (canonical_refused _ _ _ _ c.in_err-n.was c.canonical_length.ensures)

pub returns-then-not-has_room : goal.returns-then-not-has_room
returns-then-not-has_room c = canonical_full _ _ _ _ _ (sym (ap numbers_of_written c.in_ok-n.was) ∙ c.canonical_length.ensures) (sym c.has_room.ensures ∙ c.if-not-has_room.true)

pub write_declaration-requires : goal.write_declaration-requires
write_declaration-requires c = let t = length_told _ _ _ (sym (ap numbers_of_written c.in_ok-n.was) ∙ c.canonical_length.ensures) in (t.0, t.1)

pub returns : goal.returns
returns c = canonical_written _ _ _ _ _ (sym (ap numbers_of_written c.in_ok-n.was) ∙ c.canonical_length.ensures) (sym c.has_room.ensures ∙ c.if-not-has_room.false) _ _ c.write_declaration.ensures
