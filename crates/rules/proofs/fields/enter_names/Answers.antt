-- `rules::fields::enter_names` meets its contract.
-- Assumes nothing.
use mathlib.Core.Path.{◌∙◌, ap}
use Rattle.seen.specs.Seen.{is_marked}
use Rattle.seen.proofs.Laws.{length_entered, sized_as}
use lib.ListN.{length}
use Rattle.rules.proofs.Entering.{entered_first}
use Rattle.rules.proofs.fields.enter_names.Goals as goal

pub enter_aliases-requires : goal.enter_aliases-requires
enter_aliases-requires c = (c.requires.0, sized_as c.requires.1 (ap length c.enter-was.ensures.1 ∙ length_entered _ _))

pub returns : goal.returns
returns c = (c.enter-was.ensures.0 ∙ ap (is_marked c.args.table.now) c.mark-own.ensures, entered_first _ _ _ c.mark-own.ensures c.enter-was.ensures.1 c.enter_aliases.ensures)
