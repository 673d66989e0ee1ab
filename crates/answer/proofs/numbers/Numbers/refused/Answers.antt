-- `answer::Numbers::refused` meets its contract.
-- Assumes nothing.
use Rattle.answer.proofs.numbers.Numbers.refused.Goals as goal

pub returns : goal.returns
returns c = cc
