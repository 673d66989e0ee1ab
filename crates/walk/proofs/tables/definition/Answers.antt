-- `walk::tables::definition` meets its contract: what the table holds is the definition, and what is noted is the one that was found.
-- Assumes nothing.
use Rattle.walk.proofs.TableLaws.{found_below, found_held, found_noted}
use Rattle.walk.proofs.tables.definition.Goals as goal

pub returns-in-Some : goal.returns-in-Some
returns-in-Some c = (found_below _ _ c.requires.3 _ c.held.ensures c.in-Some.is, found_held _ _ c.requires.3 _ c.held.ensures c.in-Some.is, c.requires.3)

pub returns : goal.returns
returns c = (c.definition_of-d.ensures.0, c.definition_of-d.ensures.1, found_noted _ _ c.requires.3 _ _ c.definition_of-d.ensures.0 c.definition_of-d.ensures.1 c.keep.ensures)
