-- `rules::unions::by_name` meets its contract.
-- Assumes nothing.
use mathlib.Core.Path.{sym, ap}
use Rattle.rules.specs.Unions.{by_name}
use Rattle.rules.proofs.unions.by_name.Goals as goal

pub returns-in-Some : goal.returns-in-Some
returns-in-Some c = sym (ap by_name c.in-Some.is)

pub returns-in-None : goal.returns-in-None
returns-in-None c = sym (ap by_name c.in-None.is)
