-- `fits::rows::is_symbol` meets its contract.
-- Assumes nothing.
use mathlib.Core.Path.{◌∙◌}
use Rattle.fits.proofs.RowLaws.{symbol_text, symbol_none}
use Rattle.fits.proofs.rows.is_symbol.Goals as goal

pub returns-then-is_of : goal.returns-then-is_of
returns-then-is_of c = symbol_text _ _ _ _ c.requires.1 c.is_of.ensures c.if-is_of.true c.string_of.ensures.0 c.string_is.ensures

pub returns-else-is_of : goal.returns-else-is_of
returns-else-is_of c = c.if-is_of.false ∙ symbol_none _ _ _ _ c.requires.1 c.is_of.ensures c.if-is_of.false
