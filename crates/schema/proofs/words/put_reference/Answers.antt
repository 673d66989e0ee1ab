-- `schema::words::put_reference` meets its contract.
-- Assumes nothing.
use Rattle.std.proofs.lemmas.Result.{err_from_is_err_and}
use Rattle.schema.proofs.Leaves.{reference_wrong, reference_old, reference_new}
use Rattle.schema.proofs.Within.{reference_held}
use native.Mathlib.Omega.{arith}
use borrow.Author.Rules.{rules}
use Rattle.schema.proofs.words.put_reference.Goals as goal

pub slice_bounds-new_name-end : goal.slice_bounds-new_name-end
slice_bounds-new_name-end c = let h = (reference_held c.args.text.now c.args.namespace.now c.args.full.now c.args.at c.reference.ensures c.in_ok-n.was (omega arith)).room in omega arith

pub new_name-requires : goal.new_name-requires
new_name-requires c = (omega arith, (reference_held c.args.text.now c.args.namespace.now c.args.full.now c.args.at c.reference.ensures c.in_ok-n.was (omega arith)).long, search rules)

pub slice_bounds-put-end : goal.slice_bounds-put-end
slice_bounds-put-end c = let h = (reference_held c.args.text.now c.args.namespace.now c.args.full.now c.args.at c.reference.ensures c.in_ok-n.was (omega arith)).room in omega arith

pub put-requires : goal.put-requires
put-requires c = let h = (reference_held c.args.text.now c.args.namespace.now c.args.full.now c.args.at c.reference.ensures c.in_ok-n.was (omega arith)).within in omega arith

pub returns-in_err-n : goal.returns-in_err-n
returns-in_err-n c =
    let p = err_from_is_err_and c.from_residual.result c.from_residual.ensures.1 in
    rw (p.1, p.2) (reference_wrong _ _ _ _ _ c.reference.ensures.0 c.in_err-n.was)

pub returns-in_err-new_name : goal.returns-in_err-new_name
returns-in_err-new_name c =
    let p = err_from_is_err_and c.from_residual-in_err-new_name.result c.from_residual-in_err-new_name.ensures.1 in
    rw (p.1, p.2) (let h = (reference_held c.args.text.now c.args.namespace.now c.args.full.now c.args.at c.reference.ensures c.in_ok-n.was (omega arith)) in reference_old _ _ _ _ _ h.fine h.front c.new_name.ensures c.in_err-new_name.was)

pub returns : goal.returns
returns c = let h = (reference_held c.args.text.now c.args.namespace.now c.args.full.now c.args.at c.reference.ensures c.in_ok-n.was (omega arith)) in reference_new _ _ _ _ _ h.fine h.front c.new_name.ensures c.in_ok-new_name.was c.put.ensures.0 c.put.ensures.1
