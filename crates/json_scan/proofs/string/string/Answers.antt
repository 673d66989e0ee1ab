-- `json_scan::string` meets its contract. Assumes nothing.
use mathlib.Core.Path.{refl}
use Prim.Native.Nat.{◌≤◌, ◌<◌}
use native.Mathlib.Omega.{arith}
use lib.ListN.{length}
use Rattle.std.proofs.lemmas.Result.{err_from_is_err_and}
use Rattle.json_scan.specs.Json.{str, plain, closed}
use Rattle.json_scan.proofs.Readers.{reads_is}
use Rattle.json_scan.proofs.Strings.{inner_past, inner_shut, inner_on, inner_bad, inner_end}
use Rattle.json_scan.proofs.string.string.Goals as goal

pub loop-at-init : goal.loop-at-init
loop-at-init c = record { low = omega arith; high = omega arith; same = λ w k. refl }

pub returns-then-at-text : goal.returns-then-at-text
returns-then-at-text c =
    let i = inner_past c.args.text.now c.args.from c.loop-at.at c.loop-at.invariant _ c.unescaped-at.ensures in
    λ w. reads_is c.args.text.now c.args.from (str w plain) (closed w) _ _ c.bad.ensures (inner_end c.args.text.now c.args.from _ i c.if-at-text.true w)

pub returns-then-b-eq34 : goal.returns-then-b-eq34
returns-then-b-eq34 c =
    let i = inner_past c.args.text.now c.args.from c.loop-at.at c.loop-at.invariant _ c.unescaped-at.ensures in
    inner_shut c.args.text.now c.args.from _ i c.if-at-text.false c.if-b-eq34.true

pub loop-at-smaller : goal.loop-at-smaller
loop-at-smaller c =
    let i = inner_past c.args.text.now c.args.from c.loop-at.at c.loop-at.invariant _ c.unescaped-at.ensures in
    let o = inner_on c.args.text.now c.args.from _ i _ c.piece.ensures _ c.in_ok-at.was in
    let h : c.unescaped-at.result < c.in_ok-at.at = o.1 in
    let g : c.in_ok-at.at ≤ length c.args.text.now = o.2 in
    omega arith

pub loop-at-preserved : goal.loop-at-preserved
loop-at-preserved c =
    let i = inner_past c.args.text.now c.args.from c.loop-at.at c.loop-at.invariant _ c.unescaped-at.ensures in
    (inner_on c.args.text.now c.args.from _ i _ c.piece.ensures _ c.in_ok-at.was).0

pub returns-in_err-at : goal.returns-in_err-at
returns-in_err-at c =
    let p = err_from_is_err_and c.from_residual.result c.from_residual.ensures.1 in
    rw (p.1, p.2) (let i = inner_past c.args.text.now c.args.from c.loop-at.at c.loop-at.invariant _ c.unescaped-at.ensures in
    inner_bad c.args.text.now c.args.from _ i _ c.piece.ensures _ c.in_err-at.was)

pub returns : goal.returns
returns c = λ w. reads_is c.args.text.now c.args.from (str w plain) (closed w) _ _ c.bad-2.ensures (inner_end c.args.text.now c.args.from c.loop-at.at c.loop-at.invariant c.loop-at-test.false w)
