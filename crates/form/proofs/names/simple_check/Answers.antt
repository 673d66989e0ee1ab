-- `form::names::simple_check` meets its contract.
-- Assumes nothing.
use native.Mathlib.Omega.{arith}
use Rattle.form.proofs.Written.{copied, simple_at}
use Rattle.form.proofs.names.simple_check.Goals as goal

pub returns-in-Some : goal.returns-in-Some
returns-in-Some c = simple_at _ _ c.in-Some.ensures.string c.simple.ensures

pub slice_bounds-simple-end : goal.slice_bounds-simple-end
slice_bounds-simple-end c = let h = (copied c.args.text.now c.args.at c.args.word.now c.string_copy-n.ensures c.requires.0 (omega arith)).room in omega arith

pub returns : goal.returns
returns c = simple_at _ _ (copied c.args.text.now c.args.at c.args.word.now c.string_copy-n.ensures c.requires.0 (omega arith)).front c.simple-2.ensures
