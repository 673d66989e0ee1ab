-- `schema::fields::put_field_head` meets its contract.
-- Assumes nothing.
use Rattle.std.proofs.lemmas.Result.{err_from_is_err_and}
use Rattle.schema.proofs.Leaves.{field_none, field_bad, field_stopped, field_long, field_kept}
use Rattle.schema.proofs.Within.{simple_within}
use mathlib.Core.Path.{sym, ◌∙◌}
use native.Mathlib.Omega.{arith}
use Rattle.schema.proofs.fields.put_field_head.Goals as goal

pub returns-in_default : goal.returns-in_default
returns-in_default c = field_none _ _ _ _ c.as_text.ensures c.in_default.is

pub returns-in_err-simple_check : goal.returns-in_err-simple_check
returns-in_err-simple_check c =
    let p = err_from_is_err_and c.from_residual.result c.from_residual.ensures.1 in
    rw (p.1, p.2) (field_bad _ _ _ _ c.as_text.ensures c.in-Some.is c.simple_check.ensures c.in_err-simple_check.was)

pub put_field_row-next-requires : goal.put_field_row-next-requires
put_field_row-next-requires c = let h = simple_within _ _ (sym c.simple_check.ensures ∙ c.in_ok-simple_check.was) in (omega arith, omega arith, c.requires.2, c.requires.3)

pub kept_check-requires : goal.kept_check-requires
kept_check-requires c = (c.requires.2, c.requires.3)

pub returns-in_err-last : goal.returns-in_err-last
returns-in_err-last c =
    let p = err_from_is_err_and c.from_residual-in_err-last.result c.from_residual-in_err-last.ensures.1 in
    rw (p.1, p.2) (field_stopped _ _ _ _ c.as_text.ensures c.in-Some.is c.simple_check.ensures c.in_ok-simple_check.was _ c.put_field_row-next.ensures c.first_alias-first.ensures c.put_field_aliases.ensures c.in_err-last.was)

pub returns-in_err-kept_check : goal.returns-in_err-kept_check
returns-in_err-kept_check c =
    let p = err_from_is_err_and c.from_residual-in_err-kept_check.result c.from_residual-in_err-kept_check.ensures.1 in
    rw (p.1, p.2) (field_long _ _ _ _ c.as_text.ensures c.in-Some.is c.simple_check.ensures c.in_ok-simple_check.was _ c.put_field_row-next.ensures c.first_alias-first.ensures c.put_field_aliases.ensures c.in_ok-last.was c.kept_check.ensures c.in_err-kept_check.was)

pub returns : goal.returns
returns c = field_kept _ _ _ _ c.as_text.ensures c.in-Some.is c.simple_check.ensures c.in_ok-simple_check.was _ c.put_field_row-next.ensures c.first_alias-first.ensures c.put_field_aliases.ensures c.in_ok-last.was c.kept_check.ensures c.in_ok-kept_check.was
