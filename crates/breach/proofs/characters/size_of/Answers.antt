-- `breach::characters::size_of` meets its contract.
-- Assumes nothing.
use Rattle.breach.proofs.Letters.{size_one, size_two, size_three, size_four}
use Rattle.breach.proofs.characters.size_of.Goals as goal

pub returns-then-b-lt192 : goal.returns-then-b-lt192
returns-then-b-lt192 c = size_one _ c.if-b-lt192.true

pub returns-then-b-lt224 : goal.returns-then-b-lt224
returns-then-b-lt224 c = size_two _ c.if-b-lt192.false c.if-b-lt224.true

pub returns-then-b-lt240 : goal.returns-then-b-lt240
returns-then-b-lt240 c = size_three _ c.if-b-lt224.false c.if-b-lt240.true

pub returns : goal.returns
returns c = size_four _ c.if-b-lt240.false
