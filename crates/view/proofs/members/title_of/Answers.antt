-- `view::members::title_of` meets its contract: by the first byte.
-- Assumes nothing.
use mathlib.Core.Path.{sym, ◌∙◌}
use native.Mathlib.Omega.{arith}
use Rattle.view.proofs.Titled.{title_n, title_a, title_none}
use Rattle.view.proofs.members.title_of.Goals as goal

pub returns-in-110 : goal.returns-in-110
returns-in-110 c = c.number_if.ensures ∙ title_n _ (sym c.byte_at.ensures ∙ c.in-110.is)

pub returns-in-97 : goal.returns-in-97
returns-in-97 c = c.number_if-in-97.ensures ∙ title_a _ (sym c.byte_at.ensures ∙ c.in-97.is)

pub returns-in_default : goal.returns-in_default
returns-in_default c = title_none c.args.key.now (λ e. omega arith) (λ e. omega arith)
