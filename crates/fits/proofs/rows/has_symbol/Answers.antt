-- `fits::rows::has_symbol` meets its contract: the answer for the parts that are left is the answer.
-- Assumes nothing.
use mathlib.Core.Path.{ap}
use Rattle.fits.proofs.RowLaws.{some_end, some_found, some_on}
use Rattle.resolve.specs.Rules.{some}
use Rattle.fits.specs.Fits.{is_symbol}
use Rattle.view.specs.Strings.{string_at}
use Rattle.fits.proofs.rows.has_symbol.Goals as goal

pub loop-i-init : goal.loop-i-init
loop-i-init c = (c.next_part-i.ensures.1, ap (some (is_symbol (string_at c.args.text.now c.args.at))) c.next_part-i.ensures.2)

pub returns-then-is_symbol : goal.returns-then-is_symbol
returns-then-is_symbol c = some_found _ _ _ _ (is_symbol (string_at c.args.text.now c.args.at)) c.loop-i.invariant.1 c.loop-i-test.true c.is_symbol.ensures c.if-is_symbol.true

pub loop-i-preserved : goal.loop-i-preserved
loop-i-preserved c = (c.next_part-i-in-loop-i.ensures.1, some_on _ _ _ _ (is_symbol (string_at c.args.text.now c.args.at)) c.loop-i.invariant.1 c.loop-i-test.true c.is_symbol.ensures c.if-is_symbol.false _ c.next_part-i-in-loop-i.ensures.2)

pub returns : goal.returns
returns c = some_end _ _ _ _ (is_symbol (string_at c.args.text.now c.args.at)) c.loop-i.invariant.1 c.loop-i-test.false
