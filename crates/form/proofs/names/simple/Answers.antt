-- `form::names::simple` meets its contract.
-- Assumes nothing.
use Rattle.form.proofs.Written.{simple_kept, simple_not}
use Rattle.form.proofs.names.simple.Goals as goal

pub returns-then-not-is_simple : goal.returns-then-not-is_simple
returns-then-not-is_simple c = simple_not _ _ _ c.is_simple.ensures c.if-not-is_simple.true c.not_simple.ensures

pub returns : goal.returns
returns c = simple_kept c.args.text.now _ _ c.is_simple.ensures c.if-not-is_simple.false c.must.ensures
