-- `rules::unions::full_at` meets its contract.
-- Assumes nothing.
use mathlib.Core.Path.{refl}
use Rattle.form.proofs.Laws.{copied}
use Rattle.rules.proofs.Heads.{full_is}
use native.Mathlib.Omega.{arith}
use Rattle.rules.proofs.unions.full_at.Goals as goal

pub slice_bounds-full_name-end : goal.slice_bounds-full_name-end
slice_bounds-full_name-end c = let h = (copied c.args.text.now c.args.at c.args.word.now c.string_copy-n.ensures c.requires.0 (omega arith)).room in omega arith

pub returns : goal.returns
returns c = full_is c.args.text.now _ c.args.at _ refl (copied c.args.text.now c.args.at c.args.word.now c.string_copy-n.ensures c.requires.0 (omega arith)).front c.full_name.ensures
