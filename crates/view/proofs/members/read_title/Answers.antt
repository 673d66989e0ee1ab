-- `view::members::read_title` meets its contract.
-- Assumes nothing.
use Rattle.view.proofs.Titled.{is_first_lem, is_second, is_other}
use Rattle.view.proofs.members.read_title.Goals as goal

pub returns-then-read_is : goal.returns-then-read_is
returns-then-read_is c = is_first_lem _ c.read_is.ensures c.if-read_is.true

pub returns-then-read_is-2 : goal.returns-then-read_is-2
returns-then-read_is-2 c = is_second _ c.read_is.ensures c.if-read_is.false c.read_is-2.ensures c.if-read_is-2.true

pub returns : goal.returns
returns c = is_other _ c.read_is.ensures c.if-read_is.false c.read_is-2.ensures c.if-read_is-2.false
