-- `resolve::clash::same_text` meets its contract.
-- Assumes nothing.
use Rattle.resolve.proofs.clash.same_text.Goals as goal

pub returns : goal.returns
returns c = cc
