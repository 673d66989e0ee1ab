-- `walk::rows::is_part` meets its contract.
-- Assumes nothing.
use Rattle.std.proofs.Common.{not, sym, ap, ◌∙◌}
use Rattle.walk.specs.Parts.{is_part}
use Rattle.walk.proofs.rows.is_part.Goals as goal

pub returns-then-not-is_kind : goal.returns-then-not-is_kind
unfolding is_part
returns-then-not-is_kind c = λ k e. rw (sym (c.is_kind.ensures k e) ∙ c.if-not-is_kind.true) (ap not (c.is_kind-then-not-is_kind.ensures k e))

pub returns-else-not-is_kind : goal.returns-else-not-is_kind
unfolding is_part
returns-else-not-is_kind c = λ k e. rw (c.if-not-is_kind.false, sym (c.is_kind.ensures k e) ∙ c.if-not-is_kind.false)
