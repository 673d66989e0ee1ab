-- `schema::declare` meets its contract.
-- Assumes nothing.
use Rattle.std.proofs.lemmas.Result.{err_from_is_err_and}
use Rattle.json_scan.specs.Json.{longest}
use Rattle.schema.proofs.Nested.{scanned_short, declared_not, declared_rows}
use Rattle.view.proofs.Known.{known_none}
use borrow.Author.Rules.{rules}
use Rattle.schema.proofs.declare.Goals as goal

pub returns-in_err-scan : goal.returns-in_err-scan
returns-in_err-scan c =
    let p = err_from_is_err_and c.from_residual.result c.from_residual.ensures.1 in
    rw (p.1, p.2) (declared_not _ c.scan.ensures c.in_err-scan.was)

pub walk-requires : goal.walk-requires
walk-requires c = (scanned_short _ c.scan.ensures c.in_ok-scan.was, known_none _ 2048, search rules)

pub returns-then-text-le-SHORT : goal.returns-then-text-le-SHORT
returns-then-text-le-SHORT c = declared_rows _ c.scan.ensures c.in_ok-scan.was c.walk.ensures

pub walk-requires-then-text-le-MIDDLING : goal.walk-requires-then-text-le-MIDDLING
walk-requires-then-text-le-MIDDLING c = (scanned_short _ c.scan.ensures c.in_ok-scan.was, known_none _ 8192, search rules)

pub returns-then-text-le-MIDDLING : goal.returns-then-text-le-MIDDLING
returns-then-text-le-MIDDLING c = declared_rows _ c.scan.ensures c.in_ok-scan.was c.walk-then-text-le-MIDDLING.ensures

pub walk-requires-2 : goal.walk-requires-2
walk-requires-2 c = (scanned_short _ c.scan.ensures c.in_ok-scan.was, known_none _ longest, search rules)

pub returns : goal.returns
returns c = declared_rows _ c.scan.ensures c.in_ok-scan.was c.walk-2.ensures
