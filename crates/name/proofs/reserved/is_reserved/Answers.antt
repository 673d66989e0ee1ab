-- `name::reserved::is_reserved` meets its contract. Assumes nothing.
use mathlib.Core.Path.{◌≡◌, ap, ◌∙◌}
use Rattle.name.specs.Name.{is_one_of, reserved_words, is_reserved}
use Rattle.name.proofs.reserved.is_reserved.Goals as goal

pub returns : goal.returns
unfolding is_reserved reserved_words
returns c =
    let e : c.is_one_of.result ≡ is_one_of reserved_words c.last_part.result.now = c.is_one_of.ensures in
    e ∙ ap (is_one_of reserved_words) c.last_part.ensures
