-- `rabin::Rabin::update` meets its contract: the fingerprint of what is left, from here, is the whole one.
-- Assumes nothing.
use mathlib.Core.Path.{◌≡◌}
use lib.ListN.{drop}
use Rattle.rabin.specs.Rabin.{rabin_from}
use Rattle.rabin.proofs.Rabin.update.Given as goal

abbrev pub invariant-loop-b : goal.invariant-loop-b
invariant-loop-b l = rabin_from l.s (drop l.b-index l.bytes) ≡ rabin_from l.initial.s l.bytes
