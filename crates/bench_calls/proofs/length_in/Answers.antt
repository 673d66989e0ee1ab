-- `bench_calls::length_in` meets its contract.
-- Assumes nothing.
use mathlib.Core.Path.{sym, ap}
use Rattle.std.specs.Prelude.{ℕ}
use Rattle.answer.specs.Answers.{Answer}
use Rattle.canonical.specs.Calls.{numbers_of_written}
use Rattle.bench_calls.specs.Places.{length_in}
use Rattle.bench_calls.proofs.Laws.{length_none}
use borrow.Author.Rules.{rules}
use Rattle.bench_calls.proofs.length_in.Goals as goal

pub returns-in-Ok : goal.returns-in-Ok
returns-in-Ok c = sym (ap (λ (x : Answer ℕ). length_in (numbers_of_written x)) c.in-Ok.is)

pub returns-in-Err : goal.returns-in-Err
returns-in-Err c = length_none c.in-Err.is
