-- `rules::members::stands` meets its contract.
-- Assumes nothing.
use Rattle.rules.proofs.Surely.{stands_alone, stands_member}
use Rattle.rules.proofs.members.stands.Goals as goal

pub returns-then-member-sure : goal.returns-then-member-sure
returns-then-member-sure c = stands_alone _ _ _ c.if-member-sure.true

pub returns : goal.returns
returns c = stands_member _ _ _ c.if-member-sure.false
