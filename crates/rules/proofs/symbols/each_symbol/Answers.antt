-- `rules::symbols::each_symbol` meets its contract: what is left of the check, given what was passed, is the whole one.
-- Assumes nothing.
use Rattle.std.proofs.lemmas.Result.{err_from_is_err_and}
use mathlib.Core.Path.{refl, ap, ◌∙◌}
use lib.ListN.{length}
use Rattle.rules.proofs.Entering.{symbols_bad, symbols_done, symbols_held, symbols_on, symbols_start}
use Rattle.form.proofs.Laws.{visit_less}
use Rattle.seen.proofs.Laws.{length_entered}
use Rattle.rules.proofs.symbols.each_symbol.Goals as goal

pub loop-spot-init : goal.loop-spot-init
loop-spot-init c = (refl, symbols_start _ _ c.requires.2 c.first_element-spot.ensures)

pub returns : goal.returns
returns c = symbols_done _ c.loop-spot.invariant.1 c.in_default.is

pub symbol-requires : goal.symbol-requires
symbol-requires c = (c.requires.0, c.requires.1, c.loop-spot.invariant.1.sized, symbols_held _ c.loop-spot.invariant.1 c.in-Some.is)

pub returns-in_err-symbol : goal.returns-in_err-symbol
returns-in_err-symbol c =
    let p = err_from_is_err_and c.from_residual.result c.from_residual.ensures.1 in
    rw (p.1, p.2) (symbols_bad _ c.loop-spot.invariant.1 c.in-Some.is c.symbol.ensures.0 c.in_err-symbol.was)

pub loop-spot-smaller : goal.loop-spot-smaller
loop-spot-smaller c = visit_less _ c.in-Some.is c.next_element-spot.ensures

pub loop-spot-preserved : goal.loop-spot-preserved
loop-spot-preserved c = (ap length c.symbol.ensures.1 ∙ length_entered _ _ ∙ c.loop-spot.invariant.0, symbols_on _ c.loop-spot.invariant.1 c.in-Some.is c.symbol.ensures.0 c.in_ok-symbol.was c.symbol.ensures.1 c.next_element-spot.ensures)
