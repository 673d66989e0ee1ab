-- `schema::names::put_field_alias` meets its contract.
-- Assumes nothing.
use Rattle.std.proofs.lemmas.Result.{err_from_is_err_and}
use Rattle.schema.proofs.Leaves.{field_alias_bad, field_alias_fine}
use Rattle.schema.proofs.Within.{simple_within}
use mathlib.Core.Path.{sym, ◌∙◌}
use native.Mathlib.Omega.{arith}
use borrow.Author.Rules.{rules}
use Rattle.schema.proofs.names.put_field_alias.Goals as goal

pub put_string-requires : goal.put_string-requires
put_string-requires c = let h = simple_within _ _ (sym c.simple_check.ensures ∙ c.in_ok-simple_check.was) in (omega arith, omega arith, search rules)

pub returns-in_err-simple_check : goal.returns-in_err-simple_check
returns-in_err-simple_check c =
    let p = err_from_is_err_and c.from_residual.result c.from_residual.ensures.1 in
    rw (p.1, p.2) (field_alias_bad _ _ _ c.simple_check.ensures c.in_err-simple_check.was)

pub returns : goal.returns
returns c = field_alias_fine _ _ _ c.simple_check.ensures c.in_ok-simple_check.was c.put_string.ensures
