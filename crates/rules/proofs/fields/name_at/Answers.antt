-- `rules::fields::name_at` meets its contract.
-- Assumes nothing.
use Rattle.rules.proofs.Listed.{name_here, name_missing}
use Rattle.rules.proofs.fields.name_at.Goals as goal

pub returns-in-Some : goal.returns-in-Some
returns-in-Some c = name_here c.args.text.now c.args.at c.args.name c.as_text.ensures c.in-Some.is

pub returns-in-None : goal.returns-in-None
returns-in-None c = name_missing c.args.text.now c.args.at c.args.name c.as_text.ensures c.in-None.is
