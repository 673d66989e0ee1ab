-- `bench_calls::bench_scan` meets its contract.
-- Assumes nothing.
use mathlib.Core.Path.{sym, ap, ◌∙◌}
use borrow.Author.Rules.{rules}
use lib.ListN.{length}
use Rattle.json_scan.specs.Json.{Verdict}
use Rattle.bench_calls.specs.Places.{place_of}
use Rattle.bench_calls.proofs.bench_scan.Goals as goal

pub returns-in-Ok : goal.returns-in-Ok
returns-in-Ok c = sym (ap (λ (x : Verdict). place_of x (length c.args.text.now)) (sym c.scan.ensures ∙ c.in-Ok.is))

pub returns-in-Err : goal.returns-in-Err
returns-in-Err c = sym (ap (λ (x : Verdict). place_of x (length c.args.text.now)) (sym c.scan.ensures ∙ c.in-Err.is))
