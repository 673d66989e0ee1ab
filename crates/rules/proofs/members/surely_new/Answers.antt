-- `rules::members::surely_new` meets its contract: of a small union nothing is said.
-- Assumes nothing.
use Rattle.rules.proofs.Surely.{sure_none}
use Rattle.rules.proofs.members.surely_new.Goals as goal

pub returns-then-long-lt-FEW_BYTES : goal.returns-then-long-lt-FEW_BYTES
returns-then-long-lt-FEW_BYTES c = sure_none _ _ _

pub returns-then-is_small : goal.returns-then-is_small
returns-then-is_small c = sure_none _ _ _
