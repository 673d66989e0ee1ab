-- `rules::unions::full_in` meets its contract: a name of more bytes than the limit and a dot is too long.
-- Assumes nothing.
use Rattle.form.proofs.Laws.{copied}
use Rattle.rules.proofs.Heads.{full_is, full_long, stored}
use native.Mathlib.Omega.{arith}
use Rattle.rules.proofs.unions.full_in.Goals as goal

pub returns-then-n-gt-WRITTEN : goal.returns-then-n-gt-WRITTEN
returns-then-n-gt-WRITTEN c = full_long c.args.text.now _ c.args.at _ c.string_copy-n.ensures.0 c.if-n-gt-WRITTEN.true

pub slice_bounds-full_name-end : goal.slice_bounds-full_name-end
slice_bounds-full_name-end c = let h = (copied c.args.text.now c.args.space c.args.word.now c.string_copy-k.ensures c.requires.0 (omega arith)).room in omega arith

pub returns : goal.returns
returns c = full_is c.args.text.now _ c.args.at _ (copied c.args.text.now c.args.space c.args.word.now c.string_copy-k.ensures c.requires.0 (omega arith)).front (stored _ _ c.string_copy-n.ensures (omega arith)) c.full_name.ensures
