-- `dhokyurai::dhokyurai_find` meets its contract.
-- Assumes nothing.
use mathlib.Core.Path.{ap, ◌∙◌}
use mir.Facts.{to_z-of_z}
use lib.IntN.{ℤ}
use Rattle.rabin.specs.Rabin.{bytes_of}
use Rattle.summary.specs.Summary.{place_of}
use Rattle.summary.specs.Calls.{finding_of}
use Rattle.answer.proofs.Laws.{number, first, second}
use borrow.Author.Rules.{rules}
use Rattle.dhokyurai.proofs.dhokyurai_find.Goals as goal

pub returns : goal.returns
returns c =
    let e = c.of_value-n.ensures ∙ c.find.ensures ∙ ap (λ (z : ℤ). finding_of (place_of c.args.memory.now (bytes_of z))) (to_z-of_z c.ranges.fingerprint) in
    (number e, first e, second e)
