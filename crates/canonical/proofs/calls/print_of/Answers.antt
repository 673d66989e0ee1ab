-- `canonical::calls::print_of` meets its contract: the text in front of the buffer is the canonical one.
-- Assumes nothing.
use mathlib.Core.Path.{ap, ◌∙◌}
use native.Mathlib.Omega.{arith}
use mir.Facts.{to_z-of_z}
use mir.Syntax.{w64}
use borrow.Author.Rules.{sfits_of}
use Rattle.rabin.specs.Rabin.{rabin_of}
use Rattle.canonical.proofs.WriteLaws.{wrote_length}
use Rattle.canonical.proofs.CallLaws.{print_fits, print_front}
use Rattle.canonical.proofs.calls.print_of.Goals as goal

pub slice_bounds-fingerprint-end : goal.slice_bounds-fingerprint-end
slice_bounds-fingerprint-end c = omega (arith, print_fits _ _ c.requires.0 c.requires.1 _ _ _ c.requires.2 c.write_declaration-n.ensures, wrote_length c.write_declaration-n.ensures, c.requires.2)

pub returns : goal.returns
returns c = (to_z-of_z {w = w64} (sfits_of c.fingerprint.type_inv) ∙ c.fingerprint.ensures ∙ ap rabin_of (print_front _ _ c.requires.0 c.requires.1 _ _ _ c.requires.2 c.write_declaration-n.ensures), wrote_length c.write_declaration-n.ensures)
