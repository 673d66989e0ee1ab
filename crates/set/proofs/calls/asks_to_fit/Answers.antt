-- `set::calls::asks_to_fit` meets its contract.
-- Assumes nothing.
use native.Mathlib.Omega.{arith}
use Rattle.set.proofs.calls.asks_to_fit.Goals as goal

pub returns-then-n-gt-ROWS : goal.returns-then-n-gt-ROWS
returns-then-n-gt-ROWS c = λ h. absurd (omega (arith, h, c.if-n-gt-ROWS.true))
