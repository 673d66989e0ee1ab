-- `rules::unions::definition_full` meets its contract.
-- Assumes nothing.
use Rattle.rules.proofs.Heads.{named_in, named_none, named_within}
use Rattle.rules.proofs.unions.definition_full.Goals as goal

pub returns-in_default : goal.returns-in_default
returns-in_default c = named_none c.args.text.now c.args.enclosing.now c.args.members _ c.as_text.ensures c.in_default.is c.full_name.ensures

pub returns-in_default-as_text : goal.returns-in_default-as_text
returns-in_default-as_text c = named_in c.args.text.now c.args.enclosing.now c.args.members _ c.as_text.ensures c.in-Some.is c.as_text-2.ensures c.in_default-as_text.is c.full_at.ensures

pub returns : goal.returns
returns c = named_within c.args.text.now c.args.enclosing.now c.args.members _ c.as_text.ensures c.in-Some.is c.as_text-2.ensures c.in-Some-as_text.is c.full_in.ensures
