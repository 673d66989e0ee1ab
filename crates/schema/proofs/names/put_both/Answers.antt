-- `schema::names::put_both` meets its contract.
-- Assumes nothing.
use native.Mathlib.Omega.{arith}
use Rattle.schema.proofs.Leaves.{put_both}
use Rattle.form.proofs.Laws.{copied}
use Rattle.schema.proofs.names.put_both.Goals as goal

pub returns-in-Some : goal.returns-in-Some
returns-in-Some c = put_both _ _ _ _ c.in-Some.ensures.string c.push_both.ensures

pub slice_bounds-push_both-end : goal.slice_bounds-push_both-end
slice_bounds-push_both-end c = let h = (copied c.args.text.now c.args.at c.args.word.now c.string_copy-n.ensures c.requires.0 (omega arith)).room in omega arith

pub returns : goal.returns
returns c = put_both _ _ _ _ (copied c.args.text.now c.args.at c.args.word.now c.string_copy-n.ensures c.requires.0 (omega arith)).front c.push_both-2.ensures
