-- `rules::members::enter_member` meets its contract.
-- Assumes nothing.
use Rattle.rules.proofs.Heads.{apart_name, apart_short}
use Rattle.rules.proofs.Surely.{enters_not, enters_kind, enters_name}
use native.Mathlib.Omega.{arith}
use Rattle.rules.proofs.members.enter_member.Goals as goal

pub enter_kind-requires : goal.enter_kind-requires
enter_kind-requires c = c.requires.2

pub slice_bounds-enter_name-end : goal.slice_bounds-enter_name-end
slice_bounds-enter_name-end c = let h = (apart_name _ (omega arith) _ c.told_apart.ensures c.in-Name.is).0 in omega arith

pub enter_name-requires : goal.enter_name-requires
enter_name-requires c = (c.requires.0, apart_short _ (omega arith) _ c.told_apart.ensures c.in-Name.is, c.requires.1, c.requires.2, c.requires.3)

pub returns-in-LongName : goal.returns-in-LongName
returns-in-LongName c = enters_not _ _ _ _

pub returns-in-Kind : goal.returns-in-Kind
returns-in-Kind c = enters_kind _ _ _ _ c.requires.3 c.told_apart.ensures.0 c.in-Kind.is c.enter_kind.ensures.0 c.enter_kind.ensures.1

pub returns-in-Name : goal.returns-in-Name
returns-in-Name c = enters_name _ _ _ _ (apart_name _ (omega arith) _ c.told_apart.ensures c.in-Name.is).1 c.enter_name.ensures.0 c.enter_name.ensures.1
