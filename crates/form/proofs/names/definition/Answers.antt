-- `form::names::definition` meets its contract: a law for each of its four ways out.
-- Assumes nothing.
use native.Mathlib.Omega.{arith}
use Rattle.form.proofs.Written.{copied, definition_dot, definition_enclosed, definition_not, definition_space, spaced_plain}
use Rattle.form.proofs.names.definition.Goals as goal

pub slice_bounds-is_name-end : goal.slice_bounds-is_name-end
slice_bounds-is_name-end c = let h = (copied c.args.text.now c.args.at c.args.word.now c.string_copy-n.ensures c.requires.0 (omega arith)).room in omega arith

pub returns-then-not-is_name : goal.returns-then-not-is_name
returns-then-not-is_name c = definition_not c.args.text.now c.args.enclosing.now c.args.members c.args.at c.args.full.now (copied c.args.text.now c.args.at c.args.word.now c.string_copy-n.ensures c.requires.0 (omega arith)).front c.is_name.ensures c.if-not-is_name.true c.not_a_name.ensures

pub slice_bounds-has_dot-end : goal.slice_bounds-has_dot-end
slice_bounds-has_dot-end c = let h = (copied c.args.text.now c.args.at c.args.word.now c.string_copy-n.ensures c.requires.0 (omega arith)).room in omega arith

pub slice_bounds-given-end : goal.slice_bounds-given-end
slice_bounds-given-end c = let h = (copied c.args.text.now c.args.at c.args.word.now c.string_copy-n.ensures c.requires.0 (omega arith)).room in omega arith

pub returns-then-has_dot : goal.returns-then-has_dot
returns-then-has_dot c = definition_dot c.args.text.now c.args.enclosing.now c.args.members c.args.at c.args.full.now (copied c.args.text.now c.args.at c.args.word.now c.string_copy-n.ensures c.requires.0 (omega arith)).front c.is_name.ensures c.if-not-is_name.false c.has_dot.ensures c.if-has_dot.true c.given.ensures

pub slice_bounds-given-end-in_default : goal.slice_bounds-given-end-in_default
slice_bounds-given-end-in_default c = let h = (copied c.args.text.now c.args.at c.args.word.now c.string_copy-n.ensures c.requires.0 (omega arith)).room in omega arith

pub returns-in_default : goal.returns-in_default
returns-in_default c = definition_enclosed c.args.text.now c.args.enclosing.now c.args.members c.args.at c.args.full.now (copied c.args.text.now c.args.at c.args.word.now c.string_copy-n.ensures c.requires.0 (omega arith)).front c.is_name.ensures c.if-not-is_name.false c.has_dot.ensures c.if-has_dot.false c.as_text.ensures c.in_default.is c.given-in_default.ensures

pub in_namespace-requires : goal.in_namespace-requires
in_namespace-requires c = let h = (copied c.args.text.now c.args.at c.args.word.now c.string_copy-n.ensures c.requires.0 (omega arith)).room in (c.requires.0, c.requires.1, omega arith, spaced_plain _ _ c.has_dot.ensures c.if-has_dot.false)

pub returns : goal.returns
returns c = definition_space c.args.text.now c.args.enclosing.now c.args.members c.args.at c.args.full.now (copied c.args.text.now c.args.at c.args.word.now c.string_copy-n.ensures c.requires.0 (omega arith)).front c.is_name.ensures c.if-not-is_name.false c.has_dot.ensures c.if-has_dot.false c.as_text.ensures c.in-Some.is _ _ (copied c.args.text.now c.args.at c.args.word.now c.string_copy-n.ensures c.requires.0 (omega arith)).front c.in_namespace.ensures
