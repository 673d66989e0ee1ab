-- `bench_calls::bench_canonical` meets its contract.
-- Assumes nothing.
use mathlib.Core.Path.{ap, ◌∙◌}
use Rattle.bench_calls.specs.Places.{length_in}
use borrow.Author.Rules.{rules}
use Rattle.bench_calls.proofs.bench_canonical.Goals as goal

pub returns : goal.returns
returns c = (c.length_in.ensures ∙ ap length_in c.canonical.ensures.0, c.canonical.ensures.1)
