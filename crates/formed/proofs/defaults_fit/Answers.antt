-- `formed::defaults_fit` meets its contract: where there is no default, all fit.
-- Assumes nothing.
use mathlib.Core.Path.{sym, ap, ◌∙◌}
use mathlib.Core.Bool.{not}
use Rattle.formed.proofs.DecodeLaws.{fitting_none}
use Rattle.formed.proofs.defaults_fit.Goals as goal

pub returns-then-not-has_defaults : goal.returns-then-not-has_defaults
returns-then-not-has_defaults c = ap not c.if-not-has_defaults.true ∙ fitting_none _ _ c.requires.1 _ c.requires.4 (sym c.has_defaults.ensures ∙ c.if-not-has_defaults.true)
