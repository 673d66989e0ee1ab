-- `bench_calls::bench_summary` meets its contract.
-- Assumes nothing.
use mathlib.Core.Path.{ap, ◌∙◌}
use Rattle.bench_calls.specs.Places.{offsets_in}
use borrow.Author.Rules.{rules}
use Rattle.bench_calls.proofs.bench_summary.Goals as goal

pub returns : goal.returns
returns c = (c.offsets_in.ensures ∙ ap offsets_in c.summary.ensures.0, c.summary.ensures.1)
