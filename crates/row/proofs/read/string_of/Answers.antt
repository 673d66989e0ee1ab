-- `row::read::string_of` meets its contract: the part of the string area that the row names.
-- Assumes nothing.
use Rattle.row.proofs.ReadLaws.{read_text, text_lies}
use Rattle.row.proofs.read.string_of.Goals as goal

pub returns : goal.returns
returns c = (read_text _ _ c.args.i _ _ c.text_start-start.ensures.0 c.text_length-n.ensures.0 c.cut.ensures.0, text_lies _ c.args.i _ _ _ c.requires.0 c.text_start-start.ensures.0 c.cut.ensures.1)
