-- `canonical::decimal::write_digits` meets its contract: the last digit behind those of a tenth.
-- Assumes nothing.
use native.Mathlib.Omega.{arith}
use borrow.Author.Rules.{rules}
use Rattle.canonical.proofs.DecimalLaws.{one_digit, tenth_length, some_digits, last_digit}
use Rattle.canonical.proofs.decimal.+write_digits.Goals as goal

pub returns-then-size-lt10 : goal.returns-then-size-lt10
returns-then-size-lt10 t c = one_digit _ _ c.requires _ _ c.if-size-lt10.true c.copy.ensures

pub overflow_sub-n : goal.overflow_sub-n
overflow_sub-n t c = some_digits _ _ c.requires c.if-size-lt10.false (search rules)

pub write_digits-requires : goal.write_digits-requires
write_digits-requires t c = (omega arith, tenth_length _ _ c.requires c.if-size-lt10.false (search rules))

pub overflow_sub-n-2 : goal.overflow_sub-n-2
overflow_sub-n-2 t c = some_digits _ _ c.requires c.if-size-lt10.false (search rules)

pub returns : goal.returns
returns t c = last_digit _ _ c.requires c.if-size-lt10.false (search rules) _ _ _ c.write_digits.ensures c.copy-2.ensures
