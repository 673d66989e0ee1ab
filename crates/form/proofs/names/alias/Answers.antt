-- `form::names::alias` meets its contract.
-- Assumes nothing.
use native.Mathlib.Omega.{arith}
use Rattle.form.proofs.Written.{alias_kept, alias_not, copied}
use Rattle.form.proofs.names.alias.Goals as goal

pub slice_bounds-is_name-end : goal.slice_bounds-is_name-end
slice_bounds-is_name-end c = let h = (copied c.args.text.now c.args.at c.args.word.now c.string_copy-n.ensures c.requires.0 (omega arith)).room in omega arith

pub returns-then-not-is_name : goal.returns-then-not-is_name
returns-then-not-is_name c = alias_not c.args.text.now c.args.namespace.now c.args.at c.args.full.now (copied c.args.text.now c.args.at c.args.word.now c.string_copy-n.ensures c.requires.0 (omega arith)).front c.is_name.ensures c.if-not-is_name.true c.not_a_name.ensures

pub slice_bounds-given-end : goal.slice_bounds-given-end
slice_bounds-given-end c = let h = (copied c.args.text.now c.args.at c.args.word.now c.string_copy-n.ensures c.requires.0 (omega arith)).room in omega arith

pub returns : goal.returns
returns c = alias_kept c.args.text.now c.args.namespace.now c.args.at c.args.full.now (copied c.args.text.now c.args.at c.args.word.now c.string_copy-n.ensures c.requires.0 (omega arith)).front c.is_name.ensures c.if-not-is_name.false c.given.ensures
