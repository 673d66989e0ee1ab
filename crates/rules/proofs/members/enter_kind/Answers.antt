-- `rules::members::enter_kind` meets its contract.
-- Assumes nothing.
use mathlib.Core.Path.{◌∙◌, ap}
use Rattle.seen.specs.Seen.{is_marked, entered}
use Rattle.rules.proofs.Surely.{kind_union, kind_other}
use Rattle.rules.proofs.members.enter_kind.Goals as goal

pub returns-then-kind-number : goal.returns-then-kind-number
returns-then-kind-number c = (kind_union _ c.number.ensures c.if-kind-number.true _, c.enter-was.ensures.1 ∙ ap (entered c.args.table.now) c.mark_of.ensures)

pub returns : goal.returns
returns c = (kind_other _ c.number.ensures c.if-kind-number.false (c.enter-was.ensures.0 ∙ ap (is_marked c.args.table.now) c.mark_of.ensures), c.enter-was.ensures.1 ∙ ap (entered c.args.table.now) c.mark_of.ensures)
