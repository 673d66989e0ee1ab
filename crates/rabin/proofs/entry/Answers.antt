-- `rabin::entry` meets its contract.
-- Assumes nothing.
use mathlib.Core.Path.{ap, ◌∙◌}
use mathlib.Core.List.{List}
use borrow.Author.Rules.{rules}
use lib.IntN.{ℤ, pos}
use lib.ListN.{get_or}
use Rattle.rabin.specs.Rabin.{bits_of, signed_of}
use Rattle.rabin.proofs.Entries.{entry_bits}
use Rattle.rabin.proofs.entry.Goals as goal

pub returns : goal.returns
returns c = rw c.from.ensures (ap signed_of (ap (λ (t : List ℤ). bits_of (get_or t c.args.i (pos 0))) c.entries.ensures ∙ entry_bits c.args.i (pos 0) (search rules)))
