-- `canonical::decimal::digits_length` meets its contract: one more than the largest power of ten that is no larger has.
-- Assumes nothing.
use mathlib.Core.Path.{sym, ap}
use native.Mathlib.Omega.{arith}
use lib.ListN.{length}
use Rattle.canonical.proofs.DecimalLaws.{count_is, decimal_small}
use Rattle.canonical.proofs.decimal.digits_length.Goals as goal

pub returns-in-Some : goal.returns-in-Some
returns-in-Some c = count_is _ _ (omega arith) c.in-Some.ensures.power_le c.in-Some.ensures.next_power_gt

pub returns-in-None : goal.returns-in-None
returns-in-None c = sym (ap length (decimal_small c.args.size (omega (arith, c.in-None.ensures.none))))
