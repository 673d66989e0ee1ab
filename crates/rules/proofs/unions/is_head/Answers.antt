-- `rules::unions::is_head` meets its contract: a full name that is too long is no other's.
-- Assumes nothing.
use Rattle.rules.proofs.Heads.{apart_name, clash_called, clash_kinded, clash_long}
use native.Mathlib.Omega.{arith}
use Rattle.rules.proofs.unions.is_head.Goals as goal

pub slice_bounds-same-end : goal.slice_bounds-same-end
slice_bounds-same-end c = let h = (apart_name _ (omega arith) _ c.told_apart.ensures c.in-Name.is).0 in omega arith

pub returns-in-Kind : goal.returns-in-Kind
returns-in-Kind c = clash_kinded _ _ c.told_apart.ensures.0 c.in-Kind.is

pub returns-in-LongName : goal.returns-in-LongName
returns-in-LongName c = clash_long _ _ c.told_apart.ensures.0 c.requires.1 c.in-LongName.is

pub returns-in-Name : goal.returns-in-Name
returns-in-Name c = clash_called _ _ (apart_name _ (omega arith) _ c.told_apart.ensures c.in-Name.is).1 c.same.ensures
