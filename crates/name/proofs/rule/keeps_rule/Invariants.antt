-- `name::rule::keeps_rule` meets its contract. The invariant: what is left keeps the rule where the whole does. Assumes nothing.
use mathlib.Core.Path.{◌≡◌}
use mathlib.Core.Bool.{cond}
use lib.ListN.{drop}
use Rattle.name.specs.Name.{is_simple, is_dotted}
use Rattle.name.proofs.Bytewise.{keeps}
use Rattle.name.proofs.rule.keeps_rule.Given as goal

abbrev pub invariant-loop-b : goal.invariant-loop-b
invariant-loop-b l = keeps l.dots l.first (drop l.b-index l.s) ≡ cond l.dots (is_dotted l.s) (is_simple l.s)
