-- `summary::calls::place_of` meets its contract.
-- Assumes nothing.
use Rattle.std.proofs.Common.{arith}
use Rattle.summary.proofs.FormedLaws.{formed_long, formed_count}
use Rattle.summary.proofs.calls.place_of.Goals as goal

pub declarations-requires : goal.declarations-requires
declarations-requires c = formed_long _ c.requires

pub returns-then-place-declarations : goal.returns-then-place-declarations
returns-then-place-declarations c = (c.place_with-place.ensures, omega (arith, c.if-place-declarations.true, c.declarations.ensures, formed_count _ c.requires))

pub returns-else-place-declarations : goal.returns-else-place-declarations
returns-else-place-declarations c = (omega (arith, c.if-place-declarations.false, c.place_with-place.ensures, c.declarations.ensures, formed_count _ c.requires), c.refusal.ensures)
