-- `bench_calls::bench_declare` meets its contract.
-- Assumes nothing.
use borrow.Author.Rules.{rules}
use Rattle.bench_calls.proofs.Laws.{when_read, when_bad}
use Rattle.bench_calls.proofs.bench_declare.Goals as goal

pub returns-in-Ok : goal.returns-in-Ok
returns-in-Ok c = when_read c.declare.ensures c.in-Ok.is

pub returns-in-Err : goal.returns-in-Err
returns-in-Err c = when_bad c.declare.ensures c.in-Err.is
