-- `bench_calls::bench_put` meets its contract.
-- Assumes nothing.
use mathlib.Core.Path.{ap, ◌∙◌}
use Rattle.bench_calls.specs.Places.{rows_in}
use borrow.Author.Rules.{rules}
use Rattle.bench_calls.proofs.bench_put.Goals as goal

pub returns : goal.returns
returns c = (c.rows_in.ensures ∙ ap rows_in c.put.ensures.0, c.put.ensures.1)
