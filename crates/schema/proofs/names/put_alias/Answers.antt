-- `schema::names::put_alias` meets its contract.
-- Assumes nothing.
use Rattle.std.proofs.lemmas.Result.{err_from_is_err_and}
use Rattle.schema.proofs.Leaves.{alias_wrong, alias_kept}
use Rattle.schema.proofs.Within.{alias_held}
use native.Mathlib.Omega.{arith}
use Rattle.schema.proofs.names.put_alias.Goals as goal

pub slice_bounds-put-end : goal.slice_bounds-put-end
slice_bounds-put-end c = let h = (alias_held c.args.text.now c.args.namespace.now c.args.full.now c.args.at c.alias.ensures c.in_ok-n.was (omega arith)).room in omega arith

pub put-requires : goal.put-requires
put-requires c = let h = (alias_held c.args.text.now c.args.namespace.now c.args.full.now c.args.at c.alias.ensures c.in_ok-n.was (omega arith)).within in omega arith

pub returns-in_err-n : goal.returns-in_err-n
returns-in_err-n c =
    let p = err_from_is_err_and c.from_residual.result c.from_residual.ensures.1 in
    rw (p.1, p.2) (alias_wrong _ _ _ _ c.alias.ensures.0 c.in_err-n.was)

pub returns : goal.returns
returns c = let h = (alias_held c.args.text.now c.args.namespace.now c.args.full.now c.args.at c.alias.ensures c.in_ok-n.was (omega arith)) in alias_kept _ _ _ _ h.fine h.front c.put.ensures.0 c.put.ensures.1
