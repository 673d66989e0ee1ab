-- `rules::unions::told_apart` meets its contract: the head of each form.
-- Assumes nothing.
use mathlib.Core.Path.{◌∙◌}
use Rattle.rules.proofs.Heads.{apart_is, apart_called, apart_kind, apart_none, definition_called, definition_is, head_array, head_enum, head_fixed, head_is, head_map, head_record, head_union, head_word, head_wrong}
use Rattle.rules.proofs.unions.told_apart.Goals as goal

pub returns-in-Word : goal.returns-in-Word
returns-in-Word c = apart_is _ (head_is c.args.text.now c.args.at c.find-found.ensures c.args.namespace.now c.in-Word.is (head_word _ _ _ _)) c.word_apart.ensures

pub returns-in-ArrayOf : goal.returns-in-ArrayOf
returns-in-ArrayOf c = apart_is _ (head_is c.args.text.now c.args.at c.find-found.ensures c.args.namespace.now c.in-ArrayOf.is (head_array _ _ _)) (apart_kind _ c.number.ensures c.args.full.now)

pub returns-in-MapOf : goal.returns-in-MapOf
returns-in-MapOf c = apart_is _ (head_is c.args.text.now c.args.at c.find-found.ensures c.args.namespace.now c.in-MapOf.is (head_map _ _ _)) (apart_kind _ c.number-in-MapOf.ensures c.args.full.now)

pub returns-in-UnionOf : goal.returns-in-UnionOf
returns-in-UnionOf c = apart_is _ (head_is c.args.text.now c.args.at c.find-found.ensures c.args.namespace.now c.in-UnionOf.is (head_union _ _ _)) (apart_kind _ c.number-in-UnionOf.ensures c.args.full.now)

pub returns-in-RecordOf : goal.returns-in-RecordOf
returns-in-RecordOf c = apart_is _ (definition_called c.args.text.now c.args.namespace.now _ ∙ definition_is c.args.text.now c.args.at c.find-found.ensures c.args.namespace.now c.in-RecordOf.is (head_record _ _ _)) (apart_called _ _ c.definition_full.ensures c.by_name.ensures)

pub returns-in-EnumOf : goal.returns-in-EnumOf
returns-in-EnumOf c = apart_is _ (definition_called c.args.text.now c.args.namespace.now _ ∙ definition_is c.args.text.now c.args.at c.find-found.ensures c.args.namespace.now c.in-EnumOf.is (head_enum _ _ _)) (apart_called _ _ c.definition_full-in-EnumOf.ensures c.by_name-in-EnumOf.ensures)

pub returns-in-FixedOf : goal.returns-in-FixedOf
returns-in-FixedOf c = apart_is _ (definition_called c.args.text.now c.args.namespace.now _ ∙ definition_is c.args.text.now c.args.at c.find-found.ensures c.args.namespace.now c.in-FixedOf.is (head_fixed _ _ _)) (apart_called _ _ c.definition_full-in-FixedOf.ensures c.by_name-in-FixedOf.ensures)

pub returns-in-Wrong : goal.returns-in-Wrong
returns-in-Wrong c = apart_is _ (head_is c.args.text.now c.args.at c.find-found.ensures c.args.namespace.now c.in-Wrong.is (head_wrong _ _ _)) (apart_none _ c.full_name.ensures c.by_name-in-Wrong.ensures)
