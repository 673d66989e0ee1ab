-- `resolve::declaration::is_declaration` meets its contract.
-- Assumes nothing.
use Rattle.resolve.proofs.declaration.is_declaration.Goals as goal

pub returns : goal.returns
returns c = c.is_declaration_by.ensures.0
