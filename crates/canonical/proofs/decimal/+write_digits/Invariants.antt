-- `canonical::decimal::write_digits` meets its contract: the last digit behind those of a tenth.
-- Assumes nothing.
use Rattle.canonical.proofs.decimal.+write_digits.Given as goal

abbrev pub decreases-write_digits : goal.decreases-write_digits
decreases-write_digits l = l.size
