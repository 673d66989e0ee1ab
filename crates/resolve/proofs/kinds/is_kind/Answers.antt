-- `resolve::kinds::is_kind` meets its contract.
-- Assumes nothing.
use Rattle.resolve.specs.Kinds.{is_kind}
use Rattle.resolve.proofs.kinds.is_kind.Goals as goal

pub returns : goal.returns
unfolding is_kind
returns c = λ k e. cc
