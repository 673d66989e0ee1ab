-- `rules::unions::new_name` meets its contract.
-- Assumes nothing.
use Rattle.rules.proofs.Heads.{alone_fine, name_new}
use Rattle.rules.proofs.unions.new_name.Goals as goal

pub returns-in_default : goal.returns-in_default
returns-in_default c = alone_fine _ _ _ c.in_default.is

pub returns : goal.returns
returns c = name_new _ _ c.in-MemberOf.is _ c.is_new_name.ensures c.must.ensures
