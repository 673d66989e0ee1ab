-- `bench_calls::offsets_in` meets its contract.
-- Assumes nothing.
use mathlib.Core.Path.{sym, ap}
use Rattle.std.specs.Prelude.{ℕ}
use Rattle.answer.specs.Answers.{Answer}
use Rattle.summary.specs.Calls.{numbers_of_offsets}
use Rattle.bench_calls.specs.Places.{offsets_in}
use Rattle.bench_calls.proofs.Laws.{offsets_none}
use borrow.Author.Rules.{rules}
use Rattle.bench_calls.proofs.offsets_in.Goals as goal

pub returns-in-Ok : goal.returns-in-Ok
returns-in-Ok c = sym (ap (λ (x : Answer (ℕ × ℕ)). offsets_in (numbers_of_offsets x)) c.in-Ok.is)

pub returns-in-Err : goal.returns-in-Err
returns-in-Err c = offsets_none c.in-Err.is
