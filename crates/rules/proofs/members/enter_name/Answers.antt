-- `rules::members::enter_name` meets its contract: a full name whose mark is new is that of no member before.
-- Assumes nothing.
use mathlib.Core.Path.{◌∙◌, ap}
use Rattle.seen.specs.Seen.{entered}
use Rattle.rules.proofs.Surely.{name_unmarked}
use Rattle.rules.proofs.members.enter_name.Goals as goal

pub enter-requires : goal.enter-requires
enter-requires c = c.requires.3

pub returns-then-not-enter : goal.returns-then-not-enter
returns-then-not-enter c = (name_unmarked _ _ _ _ c.requires.4 c.mark_of.ensures c.enter.ensures.0 c.if-not-enter.true, c.enter.ensures.1 ∙ ap (entered c.args.table.now) c.mark_of.ensures)

pub returns : goal.returns
returns c = (c.is_new_name.ensures, c.enter.ensures.1 ∙ ap (entered c.args.table.now) c.mark_of.ensures)
