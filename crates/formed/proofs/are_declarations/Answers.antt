-- `formed::are_declarations` meets its contract: the answer for the places that are left is the answer.
-- Assumes nothing.
use mathlib.Core.Path.{sym, ◌∙◌}
use Rattle.formed.proofs.DecodeLaws.{places_start, places_room, places_bad, places_fit, places_more, places_end}
use borrow.Author.Rules.{rules}
use Rattle.formed.proofs.are_declarations.Goals as goal

pub loop-place-init : goal.loop-place-init
loop-place-init c = ((places_start _ _ c.requires.1 c.requires.3).0, (places_start _ _ c.requires.1 c.requires.3).1, record { firsts = search rules; nexts = search rules })

pub is_declaration_by-requires : goal.is_declaration_by-requires
is_declaration_by-requires c = (c.requires.0, places_room _ _ _ _ c.loop-place-test.true c.loop-place.invariant.0 _ c.rows_of-rows.ensures.0, c.loop-place.invariant.2)

pub returns-then-not-is_declaration_by : goal.returns-then-not-is_declaration_by
returns-then-not-is_declaration_by c = places_bad _ _ _ _ c.loop-place-test.true c.loop-place.invariant.0 _ c.rows_of-rows.ensures.0 _ c.loop-place.invariant.1 (sym c.is_declaration_by.ensures.0 ∙ c.if-not-is_declaration_by.true)

pub loop-place-preserved : goal.loop-place-preserved
loop-place-preserved c = (places_fit _ _ _ _ c.loop-place-test.true c.loop-place.invariant.0 _ c.rows_of-rows.ensures.0, places_more _ _ _ _ c.loop-place-test.true c.loop-place.invariant.0 _ c.rows_of-rows.ensures.0 _ c.loop-place.invariant.1 (sym c.is_declaration_by.ensures.0 ∙ c.if-not-is_declaration_by.false), c.is_declaration_by.ensures.1)

pub returns : goal.returns
returns c = places_end _ _ _ _ _ c.loop-place-test.false c.loop-place.invariant.1
