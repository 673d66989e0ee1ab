-- `formed::well_formed` meets its contract.
-- Assumes nothing.
use mathlib.Core.Path.{sym, ◌∙◌}
use native.Mathlib.Omega.{arith}
use Rattle.formed.proofs.DecodeLaws.{formed_not, formed_long, formed_few, formed_fit, formed_asks, formed_bad, formed_faulty, formed_last}
use Rattle.formed.proofs.well_formed.Goals as goal

pub returns-then-not-is_encoding : goal.returns-then-not-is_encoding
returns-then-not-is_encoding c = formed_not _ (sym c.is_encoding.ensures ∙ c.if-not-is_encoding.true)

pub declarations-n-requires : goal.declarations-n-requires
declarations-n-requires c = formed_long _ (sym c.is_encoding.ensures ∙ c.if-not-is_encoding.false)

pub are_declarations-requires : goal.are_declarations-requires
are_declarations-requires c = formed_asks _ (sym c.is_encoding.ensures ∙ c.if-not-is_encoding.false) _ c.declarations-n.ensures

pub returns-then-not-are_declarations : goal.returns-then-not-are_declarations
returns-then-not-are_declarations c = formed_bad _ (sym c.is_encoding.ensures ∙ c.if-not-is_encoding.false) _ c.declarations-n.ensures (sym c.are_declarations.ensures ∙ c.if-not-are_declarations.true)

pub rows_before-rows-requires : goal.rows_before-rows-requires
rows_before-rows-requires c = (formed_long _ (sym c.is_encoding.ensures ∙ c.if-not-is_encoding.false), formed_few _ (sym c.is_encoding.ensures ∙ c.if-not-is_encoding.false) _ c.declarations-n.ensures)

pub is_resolved-requires : goal.is_resolved-requires
is_resolved-requires c = (formed_long _ (sym c.is_encoding.ensures ∙ c.if-not-is_encoding.false), omega (arith, c.rows_before-rows.ensures, formed_fit _ (sym c.is_encoding.ensures ∙ c.if-not-is_encoding.false) _ c.declarations-n.ensures))

pub defaults_fit-requires : goal.defaults_fit-requires
defaults_fit-requires c = let a = formed_asks _ (sym c.is_encoding.ensures ∙ c.if-not-is_encoding.false) _ c.declarations-n.ensures in (a.0, a.1, a.2, a.3, c.rows_before-rows.ensures)

pub returns-else-is_resolved : goal.returns-else-is_resolved
returns-else-is_resolved c = c.if-is_resolved.false ∙ formed_faulty _ (sym c.is_encoding.ensures ∙ c.if-not-is_encoding.false) _ c.declarations-n.ensures (sym c.are_declarations.ensures ∙ c.if-not-are_declarations.false) _ c.rows_before-rows.ensures (sym c.is_resolved.ensures ∙ c.if-is_resolved.false)

pub returns-then-is_resolved : goal.returns-then-is_resolved
returns-then-is_resolved c = c.defaults_fit.ensures ∙ formed_last _ (sym c.is_encoding.ensures ∙ c.if-not-is_encoding.false) _ c.declarations-n.ensures (sym c.are_declarations.ensures ∙ c.if-not-are_declarations.false) _ c.rows_before-rows.ensures (sym c.is_resolved.ensures ∙ c.if-is_resolved.true)
