-- `canonical::places::has_print` meets its contract: the bytes compared are those of the place's fingerprint.
-- Assumes nothing.
use mathlib.Core.Path.{◌∙◌}
use mir.Facts.{to_z-of_z}
use mir.Syntax.{w64}
use borrow.Author.Rules.{sfits_of}
use Rattle.canonical.proofs.PlaceLaws.{print_same}
use Rattle.canonical.proofs.places.has_print.Goals as goal

pub returns : goal.returns
returns c = (print_same _ _ (to_z-of_z {w = w64} (sfits_of c.print_of.type_inv) ∙ c.print_of.ensures.0) c.bytes-bytes.ensures c.same.ensures, c.print_of.ensures.1)
