-- `script::numbers::decimal` meets its contract: the number of what is left, from the value so far, is the whole number.
-- Assumes nothing.
use mathlib.Core.Path.{◌≡◌}
use Prim.Native.Nat.{◌<◌}
use lib.ListN.{drop}
use Rattle.script.specs.Numbers.{number_from, number_of}
use Rattle.script.proofs.numbers.decimal.Given as goal

abbrev pub invariant-loop-b : goal.invariant-loop-b
invariant-loop-b l = (l.v < 18446744073709551616) × (number_from l.v (drop l.b-index l.word) ≡ number_of l.word)
