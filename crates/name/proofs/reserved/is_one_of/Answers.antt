-- `name::reserved::is_one_of` meets its contract. Assumes nothing.
use mathlib.Core.Path.{◌∙◌}
use borrow.Author.Rules.{rules}
use Rattle.std.proofs.lemmas.Iterator.{YieldsList-from_slice}
use Rattle.std.proofs.lemmas.Iterator.Search.{any_from_yields_List}
use Rattle.ground.specs.Bytes.{same}
use Rattle.name.proofs.reserved.Words.{one_of_any}
use Rattle.name.proofs.reserved.is_one_of.Goals as goal

pub returns : goal.returns
returns c =
    any_from_yields_List (λ w. same c.args.s.now w.now) _ _ _ c.any.ensures.ran (YieldsList-from_slice c.args.words.now (cc)) (λ x b q k. search rules)
    ∙ one_of_any _ _
