-- `rules::symbols::default_check` meets its contract.
-- Assumes nothing.
use Rattle.rules.proofs.Listed.{default_none, default_not, default_text}
use Rattle.rules.proofs.symbols.default_check.Goals as goal

pub returns-in_default : goal.returns-in_default
returns-in_default c = default_none _ _ c.in_default.is

pub returns-then-not-is_text : goal.returns-then-not-is_text
returns-then-not-is_text c = default_not _ _ c.in-Some.is c.is_text.ensures c.if-not-is_text.true

pub returns : goal.returns
returns c = default_text _ _ c.in-Some.is c.is_text.ensures c.if-not-is_text.false c.is_among.ensures c.must.ensures
