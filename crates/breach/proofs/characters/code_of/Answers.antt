-- `breach::characters::code_of` meets its contract.
-- Assumes nothing.
use native.Mathlib.Omega.{arith}
use Rattle.breach.proofs.Letters.{code_one, code_two, code_three, code_four}
use Rattle.breach.proofs.characters.code_of.Goals as goal

pub returns-then-n-eq1 : goal.returns-then-n-eq1
returns-then-n-eq1 c = code_one _ (omega arith) _ c.if-n-eq1.true

pub returns-then-n-eq2 : goal.returns-then-n-eq2
returns-then-n-eq2 c = code_two _ (omega arith) _ c.if-n-eq2.true

pub returns-then-n-eq3 : goal.returns-then-n-eq3
returns-then-n-eq3 c = code_three _ (omega arith) _ c.if-n-eq3.true

pub returns : goal.returns
returns c = code_four _ (omega arith) c.args.n (omega arith)
