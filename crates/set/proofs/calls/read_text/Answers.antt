-- `set::calls::read_text` meets its contract.
-- Assumes nothing.
use Rattle.set.proofs.Drafts.{wrote}
use Rattle.set.proofs.calls.read_text.Goals as goal

pub returns : goal.returns
returns c = wrote _ _ _ c.requires c.declare.ensures c.declare.auto.draft
