-- `rules::fields::takes` meets its contract.
-- Assumes nothing.
use Rattle.rules.proofs.Listed.{takes_alias, takes_name_lem}
use Rattle.rules.proofs.fields.takes.Goals as goal

pub returns-then-strings_same : goal.returns-then-strings_same
returns-then-strings_same c = takes_name_lem _ _ _ c.titles_at-titles.ensures c.name_at.ensures c.strings_same.ensures c.if-strings_same.true

pub returns : goal.returns
returns c = takes_alias _ _ _ c.titles_at-titles.ensures c.name_at.ensures c.strings_same.ensures c.if-strings_same.false c.is_alias.ensures
