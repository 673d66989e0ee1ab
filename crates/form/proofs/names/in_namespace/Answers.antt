-- `form::names::in_namespace` meets its contract: a law for each of its four ways out.
-- Assumes nothing.
use native.Mathlib.Omega.{arith}
use Rattle.form.proofs.Written.{copied, moved, spaced_kept, spaced_long, spaced_not, spaced_reserved}
use Rattle.form.proofs.names.in_namespace.Goals as goal

pub slice_bounds-is_namespace-end : goal.slice_bounds-is_namespace-end
slice_bounds-is_namespace-end c = let h = (copied c.args.text.now c.args.space c.args.word.now c.string_copy-k.ensures c.requires.0 (omega arith)).room in omega arith

pub returns-then-not-is_namespace : goal.returns-then-not-is_namespace
returns-then-not-is_namespace c = spaced_not c.args.text.now c.args.space c.args.n c.args.at c.args.word.now c.args.full.now (copied c.args.text.now c.args.space c.args.word.now c.string_copy-k.ensures c.requires.0 (omega arith)).front c.is_namespace.ensures c.if-not-is_namespace.true c.not_a_namespace.ensures

pub returns-then-reserved : goal.returns-then-reserved
returns-then-reserved c = spaced_reserved c.args.text.now c.args.space c.args.n c.args.at c.args.word.now c.args.full.now (copied c.args.text.now c.args.space c.args.word.now c.string_copy-k.ensures c.requires.0 (omega arith)).front c.is_namespace.ensures c.if-not-is_namespace.false c.is_reserved-reserved.ensures c.if-reserved.true

pub returns-then-n-gt-LONGEST : goal.returns-then-n-gt-LONGEST
returns-then-n-gt-LONGEST c = spaced_long c.args.text.now c.args.space c.args.n c.args.at c.args.word.now c.args.full.now (copied c.args.text.now c.args.space c.args.word.now c.string_copy-k.ensures c.requires.0 (omega arith)).front c.is_namespace.ensures c.if-not-is_namespace.false c.is_reserved-reserved.ensures c.if-reserved.false (omega arith) c.requires.3 c.if-n-gt-LONGEST.true

pub slice_bounds-qualified-end : goal.slice_bounds-qualified-end
slice_bounds-qualified-end c = let h = (copied c.args.text.now c.args.space c.args.word.now c.string_copy-k.ensures c.requires.0 (omega arith)).room in omega arith

pub returns : goal.returns
returns c = spaced_kept c.args.text.now c.args.space c.args.n c.args.at c.args.word.now c.args.full.now (copied c.args.text.now c.args.space c.args.word.now c.string_copy-k.ensures c.requires.0 (omega arith)).front c.is_namespace.ensures c.if-not-is_namespace.false c.is_reserved-reserved.ensures c.if-reserved.false (moved c.args.word.now _ c.args.n c.copy.ensures (omega arith) (omega arith)) c.qualified.ensures
