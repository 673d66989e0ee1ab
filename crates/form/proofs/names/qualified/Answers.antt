-- `form::names::qualified` meets its contract.
-- Assumes nothing.
use Rattle.form.proofs.Written.{keep_fits, keep_long}
use Rattle.name.specs.Name.{full_name}
use Rattle.form.proofs.names.qualified.Goals as goal

pub returns-in-Some : goal.returns-in-Some
returns-in-Some c = keep_fits (full_name c.args.namespace.now c.args.written.now) c.args.full.now _ c.args.at c.full_name.ensures c.in-Some.is

pub returns-in-None : goal.returns-in-None
returns-in-None c = keep_long (full_name c.args.namespace.now c.args.written.now) c.args.full.now _ c.args.at c.full_name.ensures c.in-None.is
