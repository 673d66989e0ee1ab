-- `row::tidy::tidy_row` meets its contract: the kind, where the strings lie, where they end.
-- Assumes nothing.
use mathlib.Core.Path.{refl}
use native.Mathlib.Omega.{arith}
use Rattle.std.proofs.lemmas.Bool.Decides.{nat_tests}
use Rattle.row.proofs.TestLaws.{tidy_is}
use Rattle.row.proofs.tidy.tidy_row.Goals as goal

pub returns-then-text_start-end : goal.returns-then-text_start-end
returns-then-text_start-end c = grind (arith, nat_tests, tidy_is _ c.args.i c.args.end _ c.known.ensures _ _ refl c.strings_length.ensures.0)

pub returns-else-text_start-end : goal.returns-else-text_start-end
returns-else-text_start-end c = grind (arith, nat_tests, tidy_is _ c.args.i c.args.end _ c.known.ensures _ _ refl refl)
