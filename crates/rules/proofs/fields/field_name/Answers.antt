-- `rules::fields::field_name` meets its contract: a name that is not marked is surely new.
-- Assumes nothing.
use mathlib.Core.Path.{refl}
use Rattle.rules.proofs.Listed.{field_new, field_skipped}
use Rattle.rules.proofs.Entering.{entered_names, entered_none, unmarked}
use Rattle.rules.proofs.fields.field_name.Goals as goal

pub returns-then-not-is_object : goal.returns-then-not-is_object
returns-then-not-is_object c = (field_skipped _ _ _ c.is_object.ensures c.if-not-is_object.true, entered_none _ _ _ c.is_object.ensures c.if-not-is_object.true)

pub enter_names-requires : goal.enter_names-requires
enter_names-requires c = (c.requires.0, c.requires.1)

pub returns-then-not-enter_names : goal.returns-then-not-enter_names
returns-then-not-enter_names c = (field_new _ _ _ c.is_object.ensures c.if-not-is_object.false c.titles_at-titles.ensures c.name_at-name.ensures (unmarked _ _ c.requires.2 refl c.enter_names.ensures.0 c.if-not-enter_names.true) refl, entered_names _ _ _ c.is_object.ensures c.if-not-is_object.false c.titles_at-titles.ensures c.name_at-name.ensures c.enter_names.ensures.1)

pub returns : goal.returns
returns c = (field_new _ _ _ c.is_object.ensures c.if-not-is_object.false c.titles_at-titles.ensures c.name_at-name.ensures c.is_taken.ensures c.must.ensures, entered_names _ _ _ c.is_object.ensures c.if-not-is_object.false c.titles_at-titles.ensures c.name_at-name.ensures c.enter_names.ensures.1)
