-- `row::read::default_of` meets its contract: the part of the string area behind the row's own string.
-- Assumes nothing.
use Rattle.row.proofs.ReadLaws.{read_default, default_lies}
use Rattle.row.proofs.read.default_of.Goals as goal

pub returns : goal.returns
returns c = (read_default _ _ c.args.i _ _ _ c.text_start.ensures.0 c.text_length.ensures.0 c.default_length-n.ensures.0 c.cut.ensures.0, default_lies _ c.args.i _ _ _ _ c.requires.0 c.text_start.ensures.0 c.text_length.ensures.0 c.cut.ensures.1)
