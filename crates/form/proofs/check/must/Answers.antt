-- `form::check::must` meets its contract.
-- Assumes nothing.
use Rattle.form.proofs.Sequels.{must_fails, must_holds}
use Rattle.form.proofs.check.must.Goals as goal

pub returns-then-holds : goal.returns-then-holds
returns-then-holds c = must_holds _ c.if-holds.true

pub returns : goal.returns
returns c = must_fails _ c.if-holds.false
