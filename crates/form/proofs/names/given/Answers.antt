-- `form::names::given` meets its contract.
-- Assumes nothing.
use Rattle.form.proofs.Written.{given_free, given_reserved}
use Rattle.form.proofs.names.given.Goals as goal

pub returns-then-is_reserved : goal.returns-then-is_reserved
returns-then-is_reserved c = given_reserved c.args.namespace.now c.args.written.now c.args.full.now c.args.at c.is_reserved.ensures c.if-is_reserved.true

pub returns : goal.returns
returns c = given_free c.args.namespace.now c.args.written.now c.args.full.now c.args.at c.is_reserved.ensures c.if-is_reserved.false c.qualified.ensures
