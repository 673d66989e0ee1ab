-- `row::read::counts` meets its contract: the three counts are read one after the other.
-- Assumes nothing.
use Rattle.row.proofs.ReadLaws.{few_rows, read_counts}
use borrow.Author.Rules.{rules}
use Rattle.row.proofs.read.counts.Goals as goal

pub strings_before-requires : goal.strings_before-requires
strings_before-requires c = (search rules, few_rows _ _ _ c.declarations-n.ensures c.rows_before-rows.ensures _ c.requires.2)

pub returns : goal.returns
returns c = read_counts _ _ _ c.declarations-n.ensures c.rows_before-rows.ensures _ _ c.strings_before.ensures c.new.ensures
