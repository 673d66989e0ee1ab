-- `rules::unions::head_number` meets its contract: the number of each form's head.
-- Assumes nothing.
use mathlib.Core.Path.{◌∙◌, ap, sym}
use Rattle.rules.proofs.Heads.{definition_number, head_array, head_enum, head_fixed, head_is, head_map, head_record, head_union, head_word, head_wrong}
use Rattle.rules.specs.Unions.{head_number}
use Rattle.rules.proofs.unions.head_number.Goals as goal

pub returns-in-Word : goal.returns-in-Word
returns-in-Word c = λ namespace. c.word_number.ensures namespace ∙ ap head_number (head_is c.args.text.now c.args.at c.find-found.ensures namespace c.in-Word.is (head_word _ namespace _ _))

pub returns-in-ArrayOf : goal.returns-in-ArrayOf
returns-in-ArrayOf c = λ namespace. c.number.ensures ∙ ap head_number (head_is c.args.text.now c.args.at c.find-found.ensures namespace c.in-ArrayOf.is (head_array _ namespace _))

pub returns-in-MapOf : goal.returns-in-MapOf
returns-in-MapOf c = λ namespace. c.number-in-MapOf.ensures ∙ ap head_number (head_is c.args.text.now c.args.at c.find-found.ensures namespace c.in-MapOf.is (head_map _ namespace _))

pub returns-in-UnionOf : goal.returns-in-UnionOf
returns-in-UnionOf c = λ namespace. c.number-in-UnionOf.ensures ∙ ap head_number (head_is c.args.text.now c.args.at c.find-found.ensures namespace c.in-UnionOf.is (head_union _ namespace _))

pub returns-in-RecordOf : goal.returns-in-RecordOf
returns-in-RecordOf c = λ namespace. sym (definition_number c.args.text.now namespace _) ∙ ap head_number (head_is c.args.text.now c.args.at c.find-found.ensures namespace c.in-RecordOf.is (head_record _ namespace _))

pub returns-in-EnumOf : goal.returns-in-EnumOf
returns-in-EnumOf c = λ namespace. sym (definition_number c.args.text.now namespace _) ∙ ap head_number (head_is c.args.text.now c.args.at c.find-found.ensures namespace c.in-EnumOf.is (head_enum _ namespace _))

pub returns-in-FixedOf : goal.returns-in-FixedOf
returns-in-FixedOf c = λ namespace. sym (definition_number c.args.text.now namespace _) ∙ ap head_number (head_is c.args.text.now c.args.at c.find-found.ensures namespace c.in-FixedOf.is (head_fixed _ namespace _))

pub returns-in-Wrong : goal.returns-in-Wrong
returns-in-Wrong c = λ namespace. ap head_number (head_is c.args.text.now c.args.at c.find-found.ensures namespace c.in-Wrong.is (head_wrong _ namespace _))
