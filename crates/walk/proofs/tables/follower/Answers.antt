-- `walk::tables::follower` meets its contract: what the table holds is the part behind, and what is noted is the one that was found.
-- Assumes nothing.
use Rattle.walk.proofs.RowLaws.{part_depth}
use Rattle.walk.proofs.TableLaws.{follows_held, follows_noted}
use Rattle.walk.proofs.tables.follower.Goals as goal

pub returns-in-Some : goal.returns-in-Some
returns-in-Some c = (follows_held _ _ c.requires.3 _ c.held.ensures c.in-Some.is, c.requires.3)

pub returns : goal.returns
returns c = let p = part_depth _ _ c.depth_at.ensures.0 c.next_part-d.ensures in (p, follows_noted _ _ c.requires.3 _ _ p c.keep.ensures)
