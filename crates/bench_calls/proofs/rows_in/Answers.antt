-- `bench_calls::rows_in` meets its contract.
-- Assumes nothing.
use mathlib.Core.Path.{sym, ap}
use Rattle.answer.specs.Answers.{numbers_of, Answer}
use Rattle.bench_calls.specs.Places.{rows_in}
use Rattle.bench_calls.proofs.Laws.{rows_none}
use borrow.Author.Rules.{rules}
use Rattle.bench_calls.proofs.rows_in.Goals as goal
use Rattle.answer.specs.declared.counts.Counts.{Counts}

pub returns-in-Ok : goal.returns-in-Ok
returns-in-Ok c = sym (ap (λ (x : Answer Counts). rows_in (numbers_of x)) c.in-Ok.is)

pub returns-in-Err : goal.returns-in-Err
returns-in-Err c = rows_none c.in-Err.is
